-- Document 01, "The host session" and "Numbers returned", with document 02, requests 6 and 7: what every call that sends tests first, and what sending does.
use Rattle.std.specs.Prelude.{ℕ, Bool, true, false, cond, List, [], ◌∷◌, Result, Ok, Err, ⊤, Some}
use Rattle.wire.specs.Promise.{Outcome}
use Rattle.wire.specs.declared.address.Address.{Address}
use Rattle.wire.specs.declared.refusal.Refusal.{Refusal}
use Rattle.wire.specs.declared.refusal.Refusal.TheVariants.{Range, Busy, NotDue, NoNode, Led, Closed, Lacked, Divisor, Answerable}
use Rattle.command.specs.declared.Command.{Command}
use Rattle.command.specs.Role.{role_of, is_reset}
use Rattle.codec.specs.Build.{codec_build}
use Rattle.ledger.specs.Ledger.{forget_of}
use Rattle.session.specs.declared.Exchange.{Exchange}
use Rattle.session.specs.declared.Exchange.TheVariants.{Idle, Waiting}
use Rattle.session.specs.declared.Session.{Session}
use Rattle.session.specs.declared.Step.{Step}
use Rattle.session.specs.Session.{refuse_of, is_closed}
use Rattle.sending.specs.declared.Tests.{Tests}

-- refused already, or refused if the test holds
abbrev pub refuse_if : Result ⊤ Refusal → Bool → Refusal → Result ⊤ Refusal
refuse_if (Err first) test why = Err first
refuse_if (Ok tt) true why = Err why
refuse_if (Ok tt) false why = Ok tt

-- 7: "an exchange is open"; a closed session has none
abbrev pub does_wait : Exchange → Bool
does_wait Idle = false
does_wait (Waiting at to c) = true

-- whether one is open
unfoldable pub is_waiting : Session → Bool
is_waiting s = cond (is_closed s) false (does_wait s.exchange)

-- some tests, one after another
abbrev pub refusing : Result ⊤ Refusal → List (Bool × Refusal) → Result ⊤ Refusal
refusing k [] = k
refusing k (t ∷ ts) = refusing (refuse_if k t.0 t.1) ts

-- "Host order: 12, 7, 6, 10, 9, 11, 5", in which 18 comes "right after 6", 17 "between 10 and 9", and 19 "right after 11"; 5 is what building gives
abbrev pub sequence : Session → Tests → List (Bool × Refusal)
sequence s t =
    (is_closed s, Closed)
    ∷ (is_waiting s, Busy)
    ∷ (t.unranged, Range)
    ∷ (t.unlisted, Divisor)
    ∷ (t.stray, NoNode)
    ∷ (t.lacked, Lacked)
    ∷ (t.undue, NotDue)
    ∷ (t.led, Led)
    ∷ (t.answerable, Answerable)
    ∷ []

unfoldable pub test_of : Session → Tests → Result ⊤ Refusal
test_of s t = refusing (Ok tt) (sequence s t)

-- "Each sent command but Hard Reset opens an exchange"; "Hard Reset closes the session and puts all settings in doubt"; "every command is sent at" a divisor
unfoldable pub open_exchange : Session → ℕ → Address → Command → Session
open_exchange s at to c =
    cond (is_reset (role_of c))
    (record { started = false; n = s.n; walk = s.walk; exchange = Idle; entries = forget_of s.entries })
    (record { started = s.started; n = s.n; walk = s.walk; exchange = Waiting at to c; entries = s.entries })

-- sent as so many bytes, or refused as building says
abbrev pub step_by : Session → Session → Result ℕ Refusal → Step
step_by s t (Ok n) = record { end = Ok (Some n); session = t }
step_by s t (Err why) = refuse_of s why

-- the packet is built, or refused as the builder refuses it, and the exchange opened
unfoldable pub transmit_of : Session → ℕ → Address → Address → Command → List ℕ → Outcome Step (List ℕ)
transmit_of s at called to c out =
    record { answer = step_by s (open_exchange s at to c) (codec_build called c out).answer; left = (codec_build called c out).left }

-- by the checks before it
abbrev pub by_check : Result ⊤ Refusal → Session → List ℕ → Outcome Step (List ℕ) → Outcome Step (List ℕ)
by_check (Ok tt) s out o = o
by_check (Err why) s out o = record { answer = refuse_of s why; left = out }
