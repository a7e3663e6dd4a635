-- A second result that meets a contract is equal to the first, for each public function.
use mathlib.Core.Path.{sym, ◌∙◌}
use Rattle.wire.proofs.OneResult.{OneResult}
use Rattle.state.proofs.order.is_order.Reads as is-order
use Rattle.state.proofs.order.read_command.Reads as read-command
use Rattle.state.proofs.order.read_target.Reads as read-target
use Rattle.state.proofs.is_state.Reads as is_state
use Rattle.state.proofs.read_state.Reads as read-state
use Rattle.state.proofs.put_state.Reads as put-state

pub is_order_unique : OneResult is-order.Post
is_order_unique κs a r r' s s' p q = p ∙ sym q

pub read_command_unique : OneResult read-command.Post
read_command_unique κs a r r' s s' p q = p ∙ sym q

pub read_target_unique : OneResult read-target.Post
read_target_unique κs a r r' s s' p q = p ∙ sym q

pub is_state_unique : OneResult is_state.Post
is_state_unique κs a r r' s s' p q = p ∙ sym q

pub read_state_unique : OneResult read-state.Post
read_state_unique κs a r r' s s' p q = p ∙ sym q

pub put_state_unique : OneResult put-state.Post
put_state_unique κs a r r' s s' p q = p ∙ sym q
