-- Demand 3, with document 02, requests 4 and 7: when a setting is in doubt, said over what was sent and answered since power-up. The host's record is not looked at.
use Rattle.std.specs.Prelude.{ℕ, Bool, true, false, cond, not, ◌&&◌, ◌||◌, List, [], ◌∷◌, ◌⊎◌, ◌≡◌, eqb}
use Rattle.wire.specs.declared.address.Address.{Address}
use Rattle.wire.specs.declared.address.Address.TheVariants as address
use Rattle.command.specs.declared.Place.{Place}
use Rattle.command.specs.declared.Command.{Command}
use Rattle.command.specs.declared.Command.TheVariants.{SetAddress, SetBaudRate}
use Rattle.command.specs.Role.{role_of, is_nop}
use Rattle.status.specs.declared.Answer.{Answer}
use Rattle.status.specs.declared.Answer.TheVariants.{Clear, Marked, Silent}
use Rattle.node.specs.Setting.{Setting, place}
use Rattle.node.specs.Effect.{Effect, keeps, stores, copies, effect, writes, settings_power_up}
use Rattle.session.specs.Session.{node_at, given_place}

-- what the host sent: the walk's Set Address that gives k, the "ask" for it, a command to a node or a group
pub data Sending : Type 0 where
  gives : ℕ → Sending
  asks : ℕ → Sending
  sends : Address → Command → Sending

-- at which divisor, and what it was answered
pub record Sent : Type 0 where
  pub what : Sending
  pub at : ℕ
  pub answer : Answer

-- a command that counts, and whether a good clear reply came to it
pub record Counted : Type 0 where
  pub to : Address
  pub command : Command
  pub clear : Bool

-- what is sent counts as a command to a node or a group: the walk's Set Address goes to the node that it gives its address, and an "ask" is about that Set Address
abbrev pub counts_as : Sending → Bool → Counted
counts_as (gives k) b = record { to = node_at k; command = SetAddress (given_place k); clear = b }
counts_as (asks k) b = record { to = node_at k; command = SetAddress (given_place k); clear = b }
counts_as (sends to c) b = record { to = to; command = c; clear = b }

-- node k heard at a divisor: as a Set Baud Rate of it, confirmed there
abbrev pub tells : ℕ → ℕ → Counted
tells k at = record { to = node_at k; command = SetBaudRate at; clear = true }

-- "a Nop to a node at a divisor, with a good clear reply, makes it known, and demand 3 counts it as confirming": the Nop is then the last command that could have written
-- the node's divisor, with the one that it was sent at. An "ask" is such a Nop; a Nop to a group is none
abbrev pub learnt : Sending → ℕ → List Counted → List Counted
learnt (gives k) at past = past
learnt (asks k) at past = tells k at ∷ past
learnt (sends (address.Individual i) c) at past = cond (is_nop (role_of c)) (tells i.0 at ∷ past) past
learnt (sends (address.Group g) c) at past = past

-- a good clear reply confirms, an "ask"'s "confirms that Set Address"; "A reply with the checksum bit set makes its command count as unsent";
-- silence leaves a command unconfirmed, and an "ask" tells nothing by it
abbrev pub count : Sending → ℕ → Answer → List Counted → List Counted
count what at Clear past = learnt what at (counts_as what true ∷ past)
count what at Marked past = past
count (gives k) at Silent past = counts_as (gives k) false ∷ past
count (asks k) at Silent past = past
count (sends to c) at Silent past = counts_as (sends to c) false ∷ past

-- the commands that count, the newest first
abbrev pub counted : List Sent → List Counted
counted [] = []
counted (x ∷ past) = count x.what x.at x.answer (counted past)

-- a command to node k
abbrev pub to_node : Address → ℕ → Bool
to_node (address.Individual i) k = eqb i.0 k
to_node (address.Group g) k = false

-- the place after a command that had another before it
abbrev pub place_in : Effect place → Place → Place
place_in keeps p = p
place_in (stores q) p = q
place_in (copies t f) p = p

-- the place that the last confirmed Set Address gave to node k
abbrev pub last_place : List Counted → ℕ → Place
last_place [] k = settings_power_up.place
last_place (x ∷ past) k =
    cond (x.clear && to_node x.to k) (place_in (effect x.command place) (last_place past k)) (last_place past k)

-- a copy of a setting that is in doubt
abbrev pub copied : {s : Setting} → Effect s → (Setting → Bool) → Bool
copied keeps doubt = false
copied (stores v) doubt = false
copied (copies t f) doubt = doubt t

-- "Who may be written: node k for an individual command and for the walk's Set Address that gives k; for a group, nodes known to be in it
-- and every node whose place is in doubt"; p is the place that node k was last given, `lost`: it is in doubt.
-- Document 02, request 7: "A command at a divisor not known to be the node's stays 'could have written'", so no divisor is asked for
abbrev pub goes : Address → ℕ → Bool → Place → Bool
goes (address.Individual i) k lost p = eqb i.0 k
goes (address.Group g) k lost p = lost || eqb p.group.0 g.0

-- "A good clear reply to a group command confirms only the leader, if known": the reply to a command that goes to node k is known to be its own; p and `lost` as before
abbrev pub answers : Address → Bool → Place → Bool
answers (address.Individual i) lost p = true
answers (address.Group g) lost p = not lost && p.leader && eqb p.group.0 g.0

-- command x, if it could have written node k, is confirmed there
abbrev pub confirmed_at : Counted → Bool → Place → Bool
confirmed_at x lost p = x.clear && answers x.to lost p

-- "went to a group while the node's group was in doubt"
abbrev pub group_lost : Address → Bool → Bool
group_lost (address.Individual i) lost = false
group_lost (address.Group g) lost = lost

-- setting s of node k is in doubt; computed from the newest command that counts to the oldest
abbrev pub in_doubt : List Counted → ℕ → Setting → Bool
in_doubt [] k s = false
in_doubt (x ∷ past) k s =
    cond (goes x.to k (in_doubt past k place) (last_place past k) && writes (effect x.command s))
    (not (confirmed_at x (in_doubt past k place) (last_place past k)) || copied (effect x.command s) (in_doubt past k))
    (in_doubt past k s)

-- The same in the demand's words. Command x, after what went before it, could have written setting s of node k
abbrev pub could : Counted → List Counted → ℕ → Setting → Bool
could x before k s = goes x.to k (in_doubt before k place) (last_place before k) && writes (effect x.command s)

-- x is "the last command that could have written it"
pub data Last (k : ℕ) (s : Setting) : List Counted → Counted → List Counted → Type 0 where
  this : {x : Counted} {before : List Counted} → could x before k s ≡ true → Last k s (x ∷ before) x before
  older : {x y : Counted} {past before : List Counted} → could y past k s ≡ false → Last k s past x before → Last k s (y ∷ past) x before

-- it "was unconfirmed, went to a group while the node's group was in doubt, or copied a setting in doubt";
-- the second is never the only one: a node in doubt about its place isn't known to lead, and so the command was unconfirmed there
abbrev pub Unsure : Counted → List Counted → ℕ → Setting → Type 0
Unsure x before k s =
    (confirmed_at x (in_doubt before k place) (last_place before k) ≡ false)
    ⊎ (group_lost x.to (in_doubt before k place) ≡ true)
    ⊎ (copied (effect x.command s) (in_doubt before k) ≡ true)

-- "exactly if the last command that could have written it was unconfirmed, .."
pub record Doubtful (past : List Counted) (k : ℕ) (s : Setting) : Type 0 where
  pub command : Counted
  pub before : List Counted
  pub last : Last k s past command before
  pub unsure : Unsure command before k s
