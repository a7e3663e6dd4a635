-- A second result that meets a contract is equal to the first, for each public function.
use mathlib.Core.Path.{sym, ◌∙◌}
use Rattle.wire.proofs.OneResult.{OneResult}
use Rattle.ledger.proofs.power_up.Reads as power-up
use Rattle.ledger.proofs.settle.Reads as settle
use Rattle.ledger.proofs.forget.Reads as forget
use Rattle.ledger.proofs.is_led.Reads as is-led
use Rattle.ledger.proofs.is_lacked.Reads as is-lacked
use Rattle.ledger.proofs.is_off_list.Reads as is-off-list

pub power_up_unique : OneResult power-up.Post
power_up_unique κs a r r' s s' p q = p ∙ sym q

pub settle_unique : OneResult settle.Post
settle_unique κs a r r' s s' p q = p ∙ sym q

pub forget_unique : OneResult forget.Post
forget_unique κs a r r' s s' p q = p ∙ sym q

pub is_led_unique : OneResult is-led.Post
is_led_unique κs a r r' s s' p q = p ∙ sym q

pub is_lacked_unique : OneResult is-lacked.Post
is_lacked_unique κs a r r' s s' p q = p ∙ sym q

pub is_off_list_unique : OneResult is-off-list.Post
is_off_list_unique κs a r r' s s' p q = p ∙ sym q
