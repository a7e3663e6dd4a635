-- Courses that come about, so that nobody need fear an empty promise: replies are lost, an "ask" and a command sent again make up for them;
-- document 02, request 4: "a node missed a Synch Output that its leader confirmed; its tray stood shut"; request 6: a carousel; request 7: the whole chain at full speed.
use Rattle.std.specs.Prelude.{ℕ, Bool, true, false, List, [], ◌∷◌, ◌≡◌}
use Rattle.wire.specs.declared.address.Address.{Address}
use Rattle.wire.specs.declared.address.Address.TheVariants as address
use Rattle.command.specs.declared.Place.{Place}
use Rattle.command.specs.declared.Held.{Held}
use Rattle.command.specs.declared.Motion.{Motion}
use Rattle.command.specs.declared.Command.TheVariants.{SetAddress, SynchOutput, SetOutputs, SetSynchOutput, SetBaudRate, Nop, LoadTrajectory, StartMotion}
use Rattle.status.specs.declared.Answer.TheVariants.{Clear, Silent}
use Rattle.node.specs.Setting.{outputs, position, waiting, in_force, Setting, place, divisor, gate, drive, Value, get}
use Rattle.node.specs.Effect.{group_up, settings_power_up, divisor_up}
use Rattle.entry.specs.Entry.{knows, shows}
use Rattle.session.specs.declared.Exchange.TheVariants.{Idle}
use Rattle.session.specs.Session.{entry_of, node_at, given_place}
use Rattle.line.specs.History.{Sent, gives, asks, sends}
use Rattle.line.specs.World.{World, Comes}
use Rattle.line.specs.Demand3.{node_of}

-- of setting s of node k: whether the host calls it known, what it shows, what the node holds
pub record Stands (k : ℕ) (s : Setting) (known : Bool) (shown holds : Value s) (w : World) : Type 0 where
  pub knowing : knows (entry_of w.host k) s ≡ known
  pub showing : shows (entry_of w.host k) s ≡ shown
  pub holding : get (node_of w.nodes k).settings s ≡ holds

-- a course of two nodes that ends with no exchange open, and what it comes to
pub record Course (past : List Sent) (comes_to : World → Type 0) : Type 0 where
  pub world : World
  pub comes : Comes world
  pub up : world.up ≡ true
  pub free : world.host.exchange ≡ Idle
  pub history : world.past ≡ past
  pub two : world.host.n ≡ 2
  pub ends : comes_to world

-- the first "next", whose reply is lost; and then the "ask", replied to
abbrev pub unasked : List Sent
unasked = record { what = gives 1; at = divisor_up; answer = Silent } ∷ []

abbrev pub asked : List Sent
asked = record { what = asks 1; at = divisor_up; answer = Clear } ∷ unasked

-- the walk, each step of it replied to; then Set Outputs 5 to node 2, whose reply is lost; and the same again, replied to
abbrev pub walked : List Sent
walked = record { what = gives 2; at = divisor_up; answer = Clear } ∷ record { what = gives 1; at = divisor_up; answer = Clear } ∷ []

abbrev pub lost : List Sent
lost = record { what = sends (node_at 2) (SetOutputs 5); at = divisor_up; answer = Silent } ∷ walked

abbrev pub again : List Sent
again = record { what = sends (node_at 2) (SetOutputs 5); at = divisor_up; answer = Clear } ∷ lost

-- group 0x80, which node 1 leads and node 2 is in; and what both are told to hold: outputs 5
abbrev pub group80 : Address
group80 = address.Group (record { 0 = 0x80 })

abbrev pub in_group : ℕ → Bool → Place
in_group k leader = record { address = record { 0 = k }; group = record { 0 = 0x80 }; leader = leader }

abbrev pub opened : Held
opened = record { outputs = 5; pwm = record { first = 0; second = 0 } }

-- the walk; then each node, by itself, is given its place in the group and a set to hold, all of it replied to
abbrev pub armed : List Sent
armed =
    record { what = sends (node_at 2) (SetSynchOutput opened); at = divisor_up; answer = Clear } ∷ record { what = sends (node_at 1) (SetSynchOutput opened); at = divisor_up; answer = Clear }
    ∷ record { what = sends (node_at 2) (SetAddress (in_group 2 false)); at = divisor_up; answer = Clear } ∷ record { what = sends (node_at 1) (SetAddress (in_group 1 true)); at = divisor_up; answer = Clear } ∷ walked

-- then Synch Output to the group, replied to; and the same to node 2 by itself, replied to
abbrev pub passed : List Sent
passed = record { what = sends group80 SynchOutput; at = divisor_up; answer = Clear } ∷ armed

abbrev pub handed : List Sent
handed = record { what = sends (node_at 2) SynchOutput; at = divisor_up; answer = Clear } ∷ passed

-- the walk; node 1 is to lead the group, and the reply is lost; then Set Outputs 5 to the group, replied to
abbrev pub leader_in_doubt : List Sent
leader_in_doubt = record { what = sends group80 (SetOutputs 5); at = divisor_up; answer = Clear } ∷ record { what = sends (node_at 1) (SetAddress (in_group 1 true)); at = divisor_up; answer = Silent } ∷ walked

-- a carousel at node 2: a load of position 0x2800, whose reply is lost; then Start Motion, replied to; and the load again, with the start bit, replied to
abbrev pub turn : ℕ → Motion
turn control = record { position = 0x2800; velocity = 0; acceleration = 0; control = control; pwm = 0 }

abbrev pub load_lost : List Sent
load_lost = record { what = sends (node_at 2) (LoadTrajectory (turn 0x11)); at = divisor_up; answer = Silent } ∷ walked

abbrev pub motion_started : List Sent
motion_started = record { what = sends (node_at 2) StartMotion; at = divisor_up; answer = Clear } ∷ load_lost

abbrev pub load_started : List Sent
load_started = record { what = sends (node_at 2) (LoadTrajectory (turn 0x91)); at = divisor_up; answer = Clear } ∷ motion_started

-- the walk; Set Baud Rate 0x0A to group 0xFF, in which both are and which nobody leads: nobody replies; then a Nop at 0x0A to each, replied to
abbrev pub everybody : Address
everybody = address.Group (record { 0 = group_up })

abbrev pub fast : ℕ
fast = 0x0A

abbrev pub rate_set : List Sent
rate_set = record { what = sends everybody (SetBaudRate fast); at = divisor_up; answer = Silent } ∷ walked

abbrev pub heard_one : List Sent
heard_one = record { what = sends (node_at 1) Nop; at = fast; answer = Clear } ∷ rate_set

abbrev pub heard_both : List Sent
heard_both = record { what = sends (node_at 2) Nop; at = fast; answer = Clear } ∷ heard_one

-- node 2 missed it: it doesn't hear the Nop at 0x0A; then one at the old divisor, replied to
abbrev pub unheard_behind : List Sent
unheard_behind = record { what = sends (node_at 2) Nop; at = fast; answer = Silent } ∷ heard_one

abbrev pub found_behind : List Sent
found_behind = record { what = sends (node_at 2) Nop; at = divisor_up; answer = Clear } ∷ unheard_behind

-- Where a reply is lost, the node has done what it was told, and the host is in doubt and shows the last known value; afterwards it knows.
-- Of a group's command the leader is known. A member is in doubt, whether it missed the command and holds the old outputs, or got it and holds the new ones;
-- a command to it alone makes it known. Where no leader is known, a reply makes nothing known.
-- A divisor that was set is in doubt, whether the node took it or missed the command, until a Nop at one divisor or the other is replied to; one that nobody hears tells nothing.
-- Of a carousel a load in doubt waits in doubt and, started, is in force in doubt, though Start Motion is confirmed; loaded and started at once, it is known
pub record Courses : Type 0 where
  pub addressing : Course unasked (Stands 1 place false settings_power_up.place (given_place 1))
  pub addressed : Course asked (Stands 1 place true (given_place 1) (given_place 1))
  pub doubt : Course lost (Stands 2 (gate outputs) false 0 5)
  pub known : Course again (Stands 2 (gate outputs) true 5 5)
  pub missing : Course passed (λ w. Stands 1 (gate outputs) true 5 5 w × Stands 2 (gate outputs) false 0 0 w)
  pub following : Course passed (λ w. Stands 1 (gate outputs) true 5 5 w × Stands 2 (gate outputs) false 0 5 w)
  pub alone : Course handed (Stands 2 (gate outputs) true 5 5)
  pub unknown : Course leader_in_doubt (Stands 1 (gate outputs) false 0 5)
  pub loading : Course load_lost (Stands 2 (drive (waiting position)) false 0 0x2800)
  pub starting : Course motion_started (Stands 2 (drive (in_force position)) false 0 0x2800)
  pub turning : Course load_started (λ w. Stands 2 (drive (waiting position)) true 0x2800 0x2800 w × Stands 2 (drive (in_force position)) true 0x2800 0x2800 w)
  pub pacing : Course rate_set (λ w. Stands 1 divisor false divisor_up fast w × Stands 2 divisor false divisor_up fast w)
  pub hearing : Course heard_one (λ w. Stands 1 divisor true fast fast w × Stands 2 divisor false divisor_up fast w)
  pub quick : Course heard_both (λ w. Stands 1 divisor true fast fast w × Stands 2 divisor true fast fast w)
  pub behind : Course rate_set (λ w. Stands 1 divisor false divisor_up fast w × Stands 2 divisor false divisor_up divisor_up w)
  pub unheard : Course unheard_behind (λ w. Stands 1 divisor true fast fast w × Stands 2 divisor false divisor_up divisor_up w)
  pub found : Course found_behind (λ w. Stands 1 divisor true fast fast w × Stands 2 divisor true divisor_up divisor_up w)
