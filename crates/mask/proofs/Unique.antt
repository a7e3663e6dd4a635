-- A second result that meets a contract is equal to the first, for each public function.
use mathlib.Core.Path.{sym, ◌∙◌}
use Rattle.wire.proofs.OneResult.{OneResult}
use Rattle.mask.proofs.size.Reads as size
use Rattle.mask.proofs.read.Reads as read

pub size_unique : OneResult size.Post
size_unique κs a r r' s s' p q = p ∙ sym q

pub read_unique : OneResult read.Post
read_unique κs a r r' s s' p q = p.answer ∙ sym q.answer
