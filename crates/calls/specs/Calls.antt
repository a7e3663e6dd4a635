-- The host's calls that send, as one type: what each makes of a session and a lent buffer, and which bytes it gives.
use Rattle.std.specs.Prelude.{ℕ, ◌<◌, Bool, true, false, List, ◌≡◌, take, Ok, Some}
use Rattle.wire.specs.Promise.{Outcome}
use Rattle.node.specs.Effect.{divisor_up}
use Rattle.session.specs.declared.Session.{Session}
use Rattle.session.specs.declared.Step.{Step}
use Rattle.walk.specs.Walk.{next_of, ask_of}
use Rattle.host.specs.Calls.{order_of, regroup_of, set_baud_rate_of}
use Rattle.calls.specs.declared.Call.{Call}
use Rattle.calls.specs.declared.Call.TheVariants.{Next, Ask, Order, Regroup, SetBaudRate}

-- what the host makes of a call at a divisor, with a lent buffer
abbrev pub call_perform : Call → Session → ℕ → List ℕ → Outcome Step (List ℕ)
call_perform Next s at out = next_of s at out
call_perform Ask s at out = ask_of s at out
call_perform (Order to c) s at out = order_of s at to c out
call_perform (Regroup i g leader) s at out = regroup_of s at i g leader out
call_perform (SetBaudRate g d) s at out = set_baud_rate_of s at g d out

-- what the types of a call admit, as far as its own tests don't see to it: a group is a byte
abbrev pub TypedCall : Call → Type 0
TypedCall Next = Unit {0}
TypedCall Ask = Unit {0}
TypedCall (Order to c) = Unit {0}
TypedCall (Regroup i g leader) = g.0 < 256
TypedCall (SetBaudRate g d) = Unit {0}

-- Set Baud Rate
abbrev pub sets_rate : Call → Bool
sets_rate Next = false
sets_rate Ask = false
sets_rate (Order to c) = false
sets_rate (Regroup i g leader) = false
sets_rate (SetBaudRate g d) = true

-- call c "gives these bytes with number 0" in session s: with some buffer lent, it is sent as the bytes p at its start. So it is for a recording, whose commands all go
-- at power-up's divisor: document 02, request 7: "In a recording" Set Baud Rate "ends the walk"
pub record Gives (s : Session) (c : Call) (p : List ℕ) : Type 0 where
  pub typed : TypedCall c
  pub unpaced : sets_rate c ≡ false
  pub out : List ℕ
  pub count : ℕ
  pub sent : (call_perform c s divisor_up out).answer.end ≡ Ok (Some count)
  pub bytes : take count (call_perform c s divisor_up out).left ≡ p

-- the session after it
abbrev pub session_after : {s : Session} {c : Call} {p : List ℕ} → Gives s c p → Session
session_after {s} {c} g = (call_perform c s divisor_up g.out).answer.session

-- "a command the host couldn't have sent": no call of the host in that session but Set Baud Rate gives these bytes with number 0, sent at power-up's divisor
abbrev pub Unsendable : Session → List ℕ → Type 0
Unsendable s p = (c : Call) → Gives s c p → ⊥
