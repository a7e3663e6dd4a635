-- An order that passes its check is sent: the law of one exit of the code. The check finds this and the other exits alone.
use Prim.Native.Nat.{ℕ}
use Rattle.std.specs.Prelude.{Result, Ok, ⊤}
use mathlib.Core.List.{List}
use mathlib.Core.Path.{◌≡◌}
use Rattle.wire.specs.Promise.{Lending}
use Rattle.wire.specs.declared.address.Address.{Address}
use Rattle.wire.specs.declared.refusal.Refusal.{Refusal}
use Rattle.command.specs.declared.Command.{Command}
use Rattle.session.specs.declared.Session.{Session}
use Rattle.session.specs.declared.Step.{Step}
use Rattle.session.specs.Session.{step_number}
use Rattle.sending.specs.Sending.{transmit_of}
use Rattle.host.specs.Calls.{order_check, order_of}

module _ (k : Result ⊤ Refusal) (s : Session) (at : ℕ) (out o : List ℕ) (r : Step) (by : k ≡ Ok tt) where
  pub order_sends : (to : Address) (c : Command) → k ≡ order_check s at to c → Lending step_number r o (transmit_of s at to to c out) → Lending step_number r o (order_of s at to c out)
  unfolding order_of
  order_sends to c p l = rw (← p, by) l
