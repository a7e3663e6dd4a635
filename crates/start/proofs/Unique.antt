-- A second result that meets a contract is equal to the first, for each public function.
use mathlib.Core.Path.{sym, ◌∙◌}
use Rattle.wire.proofs.OneResult.{OneResult}
use Rattle.start.proofs.fresh.Reads as fresh
use Rattle.start.proofs.power_up.Reads as power-up

pub fresh_unique : OneResult fresh.Post
fresh_unique κs a r r' s s' p q = p ∙ sym q

pub power_up_unique : OneResult power-up.Post
power_up_unique κs a r r' s s' p q = p.answer ∙ sym q.answer
