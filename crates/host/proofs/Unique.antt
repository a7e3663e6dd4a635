-- A second result that meets a contract is equal to the first, for each public function.
use mathlib.Core.Path.{◌≡◌, sym, ◌∙◌}
use Rattle.host.proofs.order.Reads as order
use Rattle.host.proofs.regroup.Reads as regroup
use Rattle.host.proofs.set_baud_rate.Reads as set-baud-rate

-- the result, and what the lent buffer holds
pub order_unique : (κs : _) (a : _) (r r' : _) (s s' : _) → order.Post κs a r s → order.Post κs a r' s'
    → (r ≡ r') × (s.1.1.1.1.0.now ≡ s'.1.1.1.1.0.now)
order_unique κs a r r' s s' p q = (p.answer ∙ sym q.answer, p.leaves ∙ sym q.leaves)

pub regroup_unique : (κs : _) (a : _) (r r' : _) (s s' : _) → regroup.Post κs a r s → regroup.Post κs a r' s'
    → (r ≡ r') × (s.1.1.1.1.1.0.now ≡ s'.1.1.1.1.1.0.now)
regroup_unique κs a r r' s s' p q = (p.answer ∙ sym q.answer, p.leaves ∙ sym q.leaves)

pub set_baud_rate_unique : (κs : _) (a : _) (r r' : _) (s s' : _) → set-baud-rate.Post κs a r s → set-baud-rate.Post κs a r' s'
    → (r ≡ r') × (s.1.1.1.1.0.now ≡ s'.1.1.1.1.0.now)
set_baud_rate_unique κs a r r' s s' p q = (p.answer ∙ sym q.answer, p.leaves ∙ sym q.leaves)
