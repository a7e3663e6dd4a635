-- A second result that meets a contract is equal to the first, for each public function.
use mathlib.Core.Path.{◌≡◌, sym, ◌∙◌}
use Rattle.wire.proofs.OneResult.{OneResult}
use Rattle.calls.proofs.Call.perform.Reads as perform
use Rattle.calls.proofs.understand.Reads as understand
use Rattle.calls.proofs.find.Reads as find

-- the result, and what the lent buffer holds
pub call_perform_unique : (κs : _) (a : _) (r r' : _) (s s' : _) → perform.Post κs a r s → perform.Post κs a r' s'
    → (r ≡ r') × (s.1.1.1.0.now ≡ s'.1.1.1.0.now)
call_perform_unique κs a r r' s s' p q = (p.answer ∙ sym q.answer, p.leaves ∙ sym q.leaves)

pub understand_unique : OneResult understand.Post
understand_unique κs a r r' s s' p q = p.answer ∙ sym q.answer

pub find_unique : OneResult find.Post
find_unique κs a r r' s s' p q = p ∙ sym q
