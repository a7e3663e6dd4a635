-- A second result that meets a contract is equal to the first, for each public function.
use mathlib.Core.Path.{◌≡◌, sym, ◌∙◌}
use Rattle.walk.proofs.next.Reads as next
use Rattle.walk.proofs.ask.Reads as ask

-- the result, and what the lent buffer holds
pub next_unique : (κs : _) (a : _) (r r' : _) (s s' : _) → next.Post κs a r s → next.Post κs a r' s'
    → (r ≡ r') × (s.1.1.0.now ≡ s'.1.1.0.now)
next_unique κs a r r' s s' p q = (p.answer ∙ sym q.answer, p.leaves ∙ sym q.leaves)

pub ask_unique : (κs : _) (a : _) (r r' : _) (s s' : _) → ask.Post κs a r s → ask.Post κs a r' s'
    → (r ≡ r') × (s.1.1.0.now ≡ s'.1.1.0.now)
ask_unique κs a r r' s s' p q = (p.answer ∙ sym q.answer, p.leaves ∙ sym q.leaves)
