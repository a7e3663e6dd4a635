-- A second result that meets a contract is equal to the first, for each public function.
use mathlib.Core.Path.{◌≡◌, sym, ◌∙◌}
use Rattle.table.proofs.deliver.Reads as deliver

-- the answer with its table, and what the reply buffer holds
pub deliver_unique : (κs : _) (a : _) (r r' : _) (s s' : _) → deliver.Post κs a r s → deliver.Post κs a r' s'
    → (r ≡ r') × (s.1.1.1.0.now ≡ s'.1.1.1.0.now)
deliver_unique κs a r r' s s' p q = (p.answer ∙ sym q.answer, p.leaves ∙ sym q.leaves)
