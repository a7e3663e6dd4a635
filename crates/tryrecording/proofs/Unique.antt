-- A second result that meets a contract is equal to the first, for each public function; and so is what the lent buffer then holds.
use mathlib.Core.Path.{◌≡◌, sym, ◌∙◌}
use Rattle.tryrecording.proofs.replay.Reads as replay

pub replay_unique : (κs : _) (a : _) (r r' : _) (s s' : _) → replay.Post κs a r s → replay.Post κs a r' s' → (r ≡ r') × (s.1.0.now ≡ s'.1.0.now)
replay_unique κs a r r' s s' p q = (p.behind ∙ sym q.behind, p.bytes ∙ sym q.bytes)
