-- Document 01, "The host session": "Where a Set Address never arrived, only a new power-up helps".
use Rattle.std.specs.Prelude.{ℕ, ◌+◌, ◌<◌, true, false, List, ◌≡◌, take, Ok, Some}
use Rattle.std.proofs.Math.Option.{Option}
use Rattle.node.specs.declared.state.Node.{Node}
use Rattle.node.specs.Setting.{place}
use Rattle.entry.specs.Entry.{knows}
use Rattle.session.specs.declared.Exchange.TheVariants.{Idle}
use Rattle.session.specs.Session.{entry_of}
use Rattle.calls.specs.declared.Call.{Call}
use Rattle.calls.specs.declared.Call.TheVariants.{Ask}
use Rattle.calls.specs.Calls.{call_perform}
use Rattle.line.specs.Line.{Arrival, Arrives, Returns, nodes_after, said_after, reported_of}
use Rattle.line.specs.World.{World, Comes}
use Rattle.line.specs.Demand3.{node_of}

-- the walk's Set Address is unconfirmed, and its node has not taken the address; if it is not on its way any more either, it never arrived
pub record Missed (w : World) : Type 0 where
  pub walking : w.host.walk < w.host.n
  pub unconfirmed : knows (entry_of w.host (w.host.walk + 1)) place ≡ false
  pub unaddressed : (node_of w.nodes (w.host.walk + 1)).addressed ≡ false

-- m is the node n, which got no command: its settings are as they were, and it is not addressed
pub record Left (n m : Node) : Type 0 where
  pub settings : m.settings ≡ n.settings
  pub unaddressed : m.addressed ≡ false

-- no call but "ask" sends; and whatever becomes of an "ask" and of the reply to it, the session is afterwards as it was, the node's settings too, and it is still not addressed
pub record Stuck (w : World) : Type 0 where
  pub alone : (c : Call) (at : ℕ) (out : List ℕ) (n : ℕ) → (call_perform c w.host at out).answer.end ≡ Ok (Some n) → c ≡ Ask
  pub same : (at : ℕ) (out : List ℕ) (n : ℕ) → (call_perform Ask w.host at out).answer.end ≡ Ok (Some n) → (q : Arrival) (r : Option (List ℕ))
      → Arrives at (take n (call_perform Ask w.host at out).left) q → Returns (said_after q w.nodes) r
      → ((reported_of (call_perform Ask w.host at out).answer.session r).session ≡ w.host) × Left (node_of w.nodes (w.host.walk + 1)) (node_of (nodes_after q w.nodes) (w.host.walk + 1))

abbrev pub OnlyPowerUp : Type 0
OnlyPowerUp = (w : World) → Comes w → w.up ≡ true → w.host.exchange ≡ Idle → Missed w → Stuck w
