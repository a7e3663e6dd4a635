-- Document 02, request 6: "Synch Output and Start Motion share a byte and are two commands here", as Set PWM and a Load Trajectory do. To a group that nobody may be in
-- either call gives the same bytes, and nothing differs: whatever comes next, the host makes the same of it.
use Rattle.std.specs.Prelude.{ℕ, Bool, false, ◌≡◌}
use Rattle.wire.specs.declared.address.Address.{Address}
use Rattle.command.specs.declared.Command.{Command}
use Rattle.entry.specs.declared.Entry.{Entry}
use Rattle.ledger.specs.Ledger.{ledger_least, reach_of, may_reach, any_from}
use Rattle.session.specs.declared.Exchange.TheVariants.{Waiting}
use Rattle.session.specs.declared.Session.{Session}
use Rattle.session.specs.Session.{is_closed}

-- a session that waits for the answer to this command
abbrev pub awaiting : Session → ℕ → Address → Command → Session
awaiting s at to c = record { started = s.started; n = s.n; walk = s.walk; exchange = Waiting at to c; entries = s.entries }

-- "node k; for a group, known members and nodes with place in doubt"
abbrev pub does_reach : Address → ℕ → Entry → Bool
does_reach to k e = may_reach (reach_of to k e)

-- a node 1 to n may be reached
abbrev pub is_reaching : Session → Address → Bool
is_reaching s to = any_from (does_reach to) 1 (ledger_least s.n) s.entries

-- the same session; or ready ones that wait for two commands sent alike to one address, where no node may be reached
pub data Alike : Session → Session → Type 0 where
  same : (s : Session) → Alike s s
  unreached : (s : Session) (at : ℕ) (to : Address) (c d : Command) → is_closed (awaiting s at to c) ≡ false → s.walk ≡ s.n → is_reaching s to ≡ false
      → Alike (awaiting s at to c) (awaiting s at to d)
