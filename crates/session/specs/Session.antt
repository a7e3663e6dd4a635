-- Document 01, "The host session": the session, which ones count as closed, and what is read off one.
use Rattle.std.specs.Prelude.{ℕ, ◌+◌, ◌-◌, Bool, true, false, cond, not, ◌&&◌, ◌||◌, ltb, leb, ◌≡◌, length, get_or, Result, Ok, Err, Option}
use Rattle.wire.specs.Numbers.{most_nodes, number_by}
use Rattle.wire.specs.declared.address.Individual.{Individual}
use Rattle.wire.specs.declared.address.Address.{Address}
use Rattle.wire.specs.declared.address.Address.TheVariants as address
use Rattle.wire.specs.declared.refusal.Refusal.{Refusal}
use Rattle.wire.specs.declared.refusal.Refusal.TheVariants.{NoNode}
use Rattle.command.specs.declared.Place.{Place}
use Rattle.node.specs.Setting.{place}
use Rattle.node.specs.Effect.{group_up}
use Rattle.entry.specs.declared.Entry.{Entry}
use Rattle.entry.specs.Entry.{knows}
use Rattle.ledger.specs.Ledger.{blank_entry}
use Rattle.session.specs.declared.Exchange.{Exchange}
use Rattle.session.specs.declared.Exchange.TheVariants.{Idle, Waiting}
use Rattle.session.specs.declared.Session.{Session}
use Rattle.session.specs.declared.Step.{Step}

-- "node not 1 to n"
abbrev pub off_chain : ℕ → Address → Bool
off_chain n (address.Individual i) = ltb i.0 1 || ltb n i.0
off_chain n (address.Group g) = false

-- "waiting on a node not 1 to n"
abbrev pub is_stray : ℕ → Exchange → Bool
is_stray n Idle = false
is_stray n (Waiting at to c) = off_chain n to

-- "One handed in with n above 31, a walk past n, or waiting on a node not 1 to n counts as closed with no exchange open"
unfoldable pub is_valid : Session → Bool
is_valid s = leb s.n most_nodes && leb s.walk s.n && not (is_stray s.n s.exchange)

-- a session within its bounds, with 31 entries: every session that comes about by the calls is such a one
pub record Valid (s : Session) : Type 0 where
  pub valid : is_valid s ≡ true
  pub whole : length s.entries ≡ most_nodes

-- how a call ends: refused, or done, and sent as so many bytes if it sends
abbrev pub End : Type 0
End = Result (Option ℕ) Refusal

abbrev pub step_number : Step → ℕ
step_number r = number_by r.end

-- a refused call gives back the session as it was handed in
abbrev pub refuse_of : Session → Refusal → Step
refuse_of s why = record { end = Err why; session = s }

-- the entry of node k
abbrev pub entry_of : Session → ℕ → Entry
entry_of s k = get_or s.entries (k - 1) blank_entry

-- what a look at a node finds: 10 where the node is not 1 to n
unfoldable pub look_of : Session → Individual → Result Entry Refusal
look_of s i =
    cond (ltb i.0 1 || ltb s.n i.0 || ltb most_nodes i.0) (Err NoNode) (Ok (entry_of s i.0))

-- 12: "session closed"
unfoldable pub is_closed : Session → Bool
is_closed s = cond (is_valid s) (not s.started) true

-- "the next address of 1, 2, .. n and second byte 0xFF": the group of power-up, and no leader
abbrev pub given_place : ℕ → Place
given_place k = record { address = record { 0 = k }; group = record { 0 = group_up }; leader = false }

-- the place of the walk's next node is in doubt: its Set Address is unconfirmed
unfoldable pub is_ask_due : Session → Bool
is_ask_due s = cond (leb most_nodes s.walk) false (not (knows (entry_of s (s.walk + 1)) place))

-- the node of number k
abbrev pub node_at : ℕ → Address
node_at k = address.Individual (record { 0 = k })
