-- While a command waits no call sends, 7: so alike sessions refuse every call alike.
use Prim.Native.Nat.{ℕ}
use mathlib.Core.Bool.{true, false}
use mathlib.Core.List.{List}
use mathlib.Core.Path.{◌≡◌, refl, sym, ap, ◌∙◌}
use Rattle.wire.specs.Promise.{Outcome}
use Rattle.wire.specs.declared.address.Address.{Address}
use Rattle.wire.specs.declared.refusal.Refusal.TheVariants.{Busy}
use Rattle.command.specs.declared.Command.{Command}
use Rattle.session.specs.declared.Session.{Session}
use Rattle.session.specs.declared.Step.{Step}
use Rattle.session.specs.Session.{is_valid, is_closed, refuse_of}
use Rattle.sending.specs.Sending.{is_waiting}
use Rattle.sending.proofs.Passing.{busy}
use Rattle.walk.specs.Walk.{next_check, ask_check, next_of, ask_of}
use Rattle.host.specs.Calls.{order_check, regroup_check, baud_rate_check, order_of, regroup_of, set_baud_rate_of}
use Rattle.calls.specs.declared.Call.{Call}
use Rattle.calls.specs.declared.Call.TheVariants.{Next, Ask, Order, Regroup, SetBaudRate}
use Rattle.calls.specs.Calls.{call_perform}
use Rattle.calls.specs.Alike.{awaiting, Alike, same, unreached}

waits : (s : Session) (at : ℕ) (to : Address) (c : Command) → is_closed (awaiting s at to c) ≡ false → is_waiting (awaiting s at to c) ≡ true
unfolding is_waiting
waits s at to c o = rw o

module _ (s : Session) (c : is_closed s ≡ false) (w : is_waiting s ≡ true) (at : ℕ) (out : List ℕ) where
  abbrev refusing : Outcome Step (List ℕ)
  refusing = record { answer = refuse_of s Busy; left = out }

  busy_refuses : (k : Call) → call_perform k s at out ≡ refusing
  unfolding next_of next_check ask_of ask_check order_of order_check regroup_of regroup_check set_baud_rate_of baud_rate_check
  busy_refuses Next = rw (busy s _ c w)
  busy_refuses Ask = rw (busy s _ c w)
  busy_refuses (Order to d) = rw (busy s _ c w)
  busy_refuses (Regroup i g leader) = rw (busy s _ c w)
  busy_refuses (SetBaudRate g v) = rw (busy s _ c w)

-- a call ends alike in both, and leaves the same buffer
pub alike_calls : {s t : Session} → Alike s t → (k : Call) (at : ℕ) (out : List ℕ)
    → ((call_perform k s at out).answer.end ≡ (call_perform k t at out).answer.end) × ((call_perform k s at out).left ≡ (call_perform k t at out).left)
unfolding is_closed is_valid
alike_calls (same s) k at out = (refl, refl)
alike_calls (unreached s v to c d o e u) k at out =
    let x = busy_refuses (awaiting s v to c) o (waits s v to c o) at out k in
    let y = busy_refuses (awaiting s v to d) o (waits s v to d o) at out k in (
      ap (λ (z : Outcome Step (List ℕ)). z.answer.end) x ∙ sym (ap (λ (z : Outcome Step (List ℕ)). z.answer.end) y),
      ap (λ (z : Outcome Step (List ℕ)). z.left) x ∙ sym (ap (λ (z : Outcome Step (List ℕ)). z.left) y),
    )
