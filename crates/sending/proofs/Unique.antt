-- A second result that meets a contract is equal to the first, for each public function.
use mathlib.Core.Path.{◌≡◌, sym, ◌∙◌}
use Rattle.wire.proofs.OneResult.{OneResult}
use Rattle.sending.proofs.test.Reads as test
use Rattle.sending.proofs.transmit.Reads as transmit

pub test_unique : OneResult test.Post
test_unique κs a r r' s s' p q = p.answer ∙ sym q.answer

-- the result, and what the lent buffer holds
pub transmit_unique : (κs : _) (a : _) (r r' : _) (s s' : _) → transmit.Post κs a r s → transmit.Post κs a r' s'
    → (r ≡ r') × (s.1.1.1.1.1.0.now ≡ s'.1.1.1.1.1.0.now)
transmit_unique κs a r r' s s' p q = (p.answer ∙ sym q.answer, p.leaves ∙ sym q.leaves)
