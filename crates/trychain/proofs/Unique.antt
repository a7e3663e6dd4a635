-- A second result that meets a contract is equal to the first.
use mathlib.Core.Path.{sym, ◌∙◌}
use Rattle.wire.proofs.OneResult.{OneResult}
use Rattle.trychain.proofs.deliver.Reads as deliver

pub deliver_unique : OneResult deliver.Post
deliver_unique κs a r r' s s' p q = p ∙ sym q
