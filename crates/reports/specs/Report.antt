-- Document 01, "The host session", with document 02, request 7: an exchange is "closed by reporting silence or the bytes received".
use Rattle.std.specs.Prelude.{ℕ, ◌+◌, Bool, false, cond, ◌&&◌, List, ltb, eqb, Ok, None}
use Rattle.wire.specs.declared.address.Address.{Address}
use Rattle.wire.specs.declared.address.Address.TheVariants as address
use Rattle.wire.specs.declared.refusal.Refusal.TheVariants as refusal
use Rattle.command.specs.declared.Command.{Command}
use Rattle.command.specs.declared.Command.TheVariants.{SetAddress, SetBaudRate}
use Rattle.command.specs.Role.{role_of, is_placing, is_nop}
use Rattle.status.specs.Status.{judge_of}
use Rattle.status.specs.declared.Answer.{Answer}
use Rattle.status.specs.declared.Answer.TheVariants.{Clear, Marked, Silent}
use Rattle.entry.specs.declared.Entry.{Entry}
use Rattle.ledger.specs.Ledger.{settle_of}
use Rattle.session.specs.declared.Exchange.{Exchange}
use Rattle.session.specs.declared.Exchange.TheVariants.{Idle, Waiting}
use Rattle.session.specs.declared.Session.{Session}
use Rattle.session.specs.declared.Step.{Step}
use Rattle.session.specs.Session.{refuse_of, is_closed, given_place, is_ask_due}

-- the exchange is about the node to which the walk gives its next address
abbrev pub is_on_walk : Session → Address → Bool
is_on_walk s (address.Individual i) = ltb s.walk s.n && eqb i.0 (s.walk + 1)
is_on_walk s (address.Group g) = false

-- it is the walk's Set Address
unfoldable pub is_giving : Session → Address → Command → Bool
is_giving s to c = is_on_walk s to && is_placing (role_of c)

-- it is the walk's "ask"
unfoldable pub is_asking : Session → Address → Command → Bool
is_asking s to c = is_on_walk s to && is_nop (role_of c) && is_ask_due s

abbrev pub idle_at : Session → ℕ → List Entry → Session
idle_at s walk es = record { started = s.started; n = s.n; walk = walk; exchange = Idle; entries = es }

-- "Good and not clear: the record stays as before. All else counts as silence: unconfirmed"; good and clear confirms the command,
-- which on the walk is a step of it, and the "ask"'s reply "confirms that Set Address"
unfoldable pub noted_of : Session → Address → Command → Answer → Session
noted_of s to c Marked = idle_at s s.walk s.entries
noted_of s to c Silent = idle_at s s.walk (settle_of Silent to c s.n s.entries)
noted_of s to c Clear =
    cond (is_giving s to c) (idle_at s (s.walk + 1) (settle_of Clear to c s.n s.entries))
    (cond (is_asking s to c) (idle_at s (s.walk + 1) (settle_of Clear to (SetAddress (given_place (s.walk + 1))) s.n s.entries))
    (idle_at s s.walk (settle_of Clear to c s.n s.entries)))

-- "a Nop to a node at a divisor, with a good clear reply, makes it known": no Nop to a group, and no other command
abbrev pub is_telling : Address → Command → Bool
is_telling (address.Individual i) c = is_nop (role_of c)
is_telling (address.Group g) c = false

-- as a Set Baud Rate of that divisor would, confirmed by the node
abbrev pub told_of : Session → ℕ → Address → Session
told_of s at to = idle_at s s.walk (settle_of Clear to (SetBaudRate at) s.n s.entries)

-- what is told by an answer
abbrev pub told_by : Answer → Session → ℕ → Address → Session
told_by Clear s at to = told_of s at to
told_by Marked s at to = s
told_by Silent s at to = s

-- a command sent at a divisor is answered
unfoldable pub conclude_of : Session → ℕ → Address → Command → Answer → Session
conclude_of s at to c a = cond (is_telling to c) (told_by a (noted_of s to c a) at to) (noted_of s to c a)

-- by what waits; 8: "nothing to report on"
abbrev pub finish_by : Exchange → Session → Answer → Step
finish_by Idle s a = refuse_of s refusal.Idle
finish_by (Waiting at to c) s a = record { end = Ok None; session = conclude_of s at to c a }

-- a closed session has no exchange
unfoldable pub finish_of : Session → Answer → Step
finish_of s a = cond (is_closed s) (refuse_of s refusal.Idle) (finish_by s.exchange s a)

-- by silence
abbrev pub silence_of : Session → Step
silence_of s = finish_of s Silent

-- by the bytes received, "as it came"
unfoldable pub report_of : Session → List ℕ → Step
report_of s bytes = finish_of s (judge_of bytes)
