-- A second result that meets a contract is equal to the first, for each public function; and so is what the lent buffer then holds.
use mathlib.Core.Path.{◌≡◌, sym, ◌∙◌}
use Rattle.wire.proofs.OneResult.{OneResult}
use Rattle.sheet.proofs.importing.number.Reads as imported-number
use Rattle.sheet.proofs.importing.import.Reads as import
use Rattle.sheet.proofs.exporting.export.Reads as export

pub imported_number_unique : OneResult imported-number.Post
imported_number_unique κs a r r' s s' p q = p ∙ sym q

pub import_unique : (κs : _) (a : _) (r r' : _) (s s' : _) → import.Post κs a r s → import.Post κs a r' s' → (r ≡ r') × (s.1.0.now ≡ s'.1.0.now)
import_unique κs a r r' s s' p q = (p.answer ∙ sym q.answer, p.leaves ∙ sym q.leaves)

pub export_unique : (κs : _) (a : _) (r r' : _) (s s' : _) → export.Post κs a r s → export.Post κs a r' s' → (r ≡ r') × (s.1.0.now ≡ s'.1.0.now)
export_unique κs a r r' s s' p q = (p.answer ∙ sym q.answer, p.leaves ∙ sym q.leaves)
