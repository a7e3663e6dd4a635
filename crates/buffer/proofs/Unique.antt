-- A second result that meets a contract is equal to the first, for each public function.
use Rattle.std.proofs.Common.{◌≡◌, sym, ◌∙◌}
use Rattle.wire.proofs.OneResult.{OneResult}
use Rattle.buffer.proofs.put.Reads as put
use Rattle.buffer.proofs.store.Reads as store
use Rattle.buffer.proofs.sum.Reads as sum
use Rattle.buffer.proofs.ends_in_sum.Reads as ends-in-sum

pub sum_unique : OneResult sum.Post
sum_unique κs a r r' s s' p q = p ∙ sym q

pub ends_in_sum_unique : OneResult ends-in-sum.Post
ends_in_sum_unique κs a r r' s s' p q = p ∙ sym q

-- what the lent buffer holds
pub put_unique : (κs : _) (a : _) (r r' : _) (s s' : _) → put.Post κs a r s → put.Post κs a r' s' → s.0.now ≡ s'.0.now
put_unique κs a r r' s s' p q = p ∙ sym q

pub store_unique : (κs : _) (a : _) (r r' : _) (s s' : _) → store.Post κs a r s → store.Post κs a r' s' → s.0.now ≡ s'.0.now
store_unique κs a r r' s s' p q = p ∙ sym q
