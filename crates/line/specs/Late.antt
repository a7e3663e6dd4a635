-- Why a packet that is on its way at a power-up may come to no node after it: a setting that the host calls known would not be what the node holds.
use Rattle.std.specs.Prelude.{ℕ, true, List, map, ◌≡◌, length, Ok, None}
use Rattle.wire.specs.declared.kind.Kind.{Kind}
use Rattle.node.specs.Setting.{place, get}
use Rattle.entry.specs.Entry.{knows, shows}
use Rattle.session.specs.Session.{entry_of}
use Rattle.start.specs.Start.{start_power_up}
use Rattle.line.specs.History.{gives}
use Rattle.line.specs.Line.{going, to_all, nodes_after}
use Rattle.line.specs.World.{World, Device, powered_up, Told, Comes}
use Rattle.line.specs.Demand3.{node_of}

-- the first "next" is on its way when the host is told of a power-up
pub record Late : Type 0 where
  pub world : World
  pub comes : Comes world
  pub packet : List ℕ
  pub divisor : ℕ
  pub sent : world.line ≡ going (gives 1) divisor packet
  pub devices : List Device
  pub kinds : List Kind
  pub told : Told kinds devices
  pub accepted : (start_power_up world.host (length devices) kinds).end ≡ Ok None
  -- the place of node 1 is known; were the packet to arrive now, the node would hold another
  pub known : knows (entry_of (start_power_up world.host (length devices) kinds).session 1) place ≡ true
  pub differs : shows (entry_of (start_power_up world.host (length devices) kinds).session 1) place
      ≡ get (node_of (nodes_after (to_all divisor packet) (map powered_up devices)) 1).settings place → ⊥
