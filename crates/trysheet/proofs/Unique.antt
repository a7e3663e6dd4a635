-- A second result that meets a contract is equal to the first, for each public function.
use Rattle.std.proofs.Common.{sym, ◌∙◌}
use Rattle.wire.proofs.OneResult.{OneResult}
use Rattle.trysheet.proofs.import.Reads as import
use Rattle.trysheet.proofs.export.Reads as export
use Rattle.trysheet.proofs.import_copied.Reads as import-copied
use Rattle.trysheet.proofs.export_copied.Reads as export-copied

pub import_unique : OneResult import.Post
import_unique κs a r r' s s' p q = p ∙ sym q

pub export_unique : OneResult export.Post
export_unique κs a r r' s s' p q = p ∙ sym q

pub import_copied_unique : OneResult import-copied.Post
import_copied_unique κs a r r' s s' p q = p ∙ sym q

pub export_copied_unique : OneResult export-copied.Post
export_copied_unique κs a r r' s s' p q = p ∙ sym q
