-- A second result that meets the contract is equal to the first, and so is what the output then holds.
use mathlib.Core.Path.{◌≡◌, sym, ◌∙◌}
use Rattle.script.proofs.rehearsal.rehearse.Reads as rehearse

pub rehearse_unique : (κs : _) (a : _) (r r' : _) (s s' : _) → rehearse.Post κs a r s → rehearse.Post κs a r' s' → (r ≡ r') × (s.1.0.now ≡ s'.1.0.now)
rehearse_unique κs a r r' s s' p q = (p.answer ∙ sym q.answer, p.leaves ∙ sym q.leaves)
