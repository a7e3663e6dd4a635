-- Demand 3, and what else the premises give.
use Rattle.std.specs.Prelude.{ℕ, ◌+◌, ◌-◌, ◌≤◌, Bool, true, false, List, ◌↔◌, ◌≡◌, length, get_or, take, Result, Ok, Err}
use Rattle.wire.specs.declared.address.Group.{Group}
use Rattle.wire.specs.declared.refusal.Refusal.{Refusal}
use Rattle.wire.specs.declared.address.Address.TheVariants as address
use Rattle.command.specs.declared.Command.TheVariants.{SetBaudRate}
use Rattle.status.specs.Status.{T}
use Rattle.node.specs.declared.state.Node.{Node}
use Rattle.node.specs.Setting.{Setting, get}
use Rattle.survey.specs.declared.decision.Delivery.{Delivery}
use Rattle.survey.specs.declared.decision.Delivery.TheVariants.{Silent, Replied, Collision}
use Rattle.survey.specs.One.{is_answering}
use Rattle.survey.specs.Chain.{blank_node, Said, silence, reply, collided}
use Rattle.survey.specs.Delivery.{valid, deliver_of}
use Rattle.entry.specs.Entry.{knows, shows}
use Rattle.session.specs.declared.Exchange.TheVariants.{Idle}
use Rattle.session.specs.Session.{entry_of}
use Rattle.line.specs.History.{Sending, sends, counted, Doubtful}
use Rattle.line.specs.Line.{OnItsWay, Arrival, to_all, Arrives, nodes_after, said_after}
use Rattle.line.specs.World.{World, Comes}

-- node k of the chain
abbrev pub node_of : List Node → ℕ → Node
node_of ns k = get_or ns (k - 1) blank_node

-- what demand 3 promises of a world, for each node 1 to n and each setting
pub record Kept (w : World) : Type 0 where
  -- the chain has the nodes of which the host has a record
  pub recorded : length w.nodes ≡ w.host.n
  -- "each setting the host calls known is what the node holds"
  pub known : (k : ℕ) → 1 ≤ k → k ≤ w.host.n → (s : Setting)
      → knows (entry_of w.host k) s ≡ true → shows (entry_of w.host k) s ≡ get (node_of w.nodes k).settings s
  -- "It is in doubt exactly if the last command that could have written it was unconfirmed, went to a group while the node's group was in doubt,
  -- or copied a setting in doubt"
  pub doubt : (k : ℕ) → 1 ≤ k → k ≤ w.host.n → (s : Setting) → (knows (entry_of w.host k) s ≡ false) ↔ Doubtful (counted w.past) k s

-- "with no exchange open and no Hard Reset sent since"
abbrev pub Demand3 : Type 0
Demand3 = (w : World) → Comes w → w.up ≡ true → w.host.exchange ≡ Idle → Kept w

-- from a power-up to the next Hard Reset, also in mid-exchange, at most one node really leads a group
abbrev pub OneLeader : Type 0
OneLeader = (w : World) → Comes w → w.up ≡ true → (g : Group) (j k : ℕ) → 1 ≤ j → j ≤ w.host.n → 1 ≤ k → k ≤ w.host.n
    → is_answering (address.Group g) (node_of w.nodes j).settings.place ≡ true → is_answering (address.Group g) (node_of w.nodes k).settings.place ≡ true → j ≡ k

-- so no two nodes reply at once to a packet sent in that time, whatever becomes of it on its way and whichever nodes get it
abbrev pub NoCollision : Type 0
NoCollision = (w : World) → Comes w → w.up ≡ true → (what : Sending) (at : ℕ) (p : List ℕ) → OnItsWay what at p w.line → (q : Arrival) → Arrives at p q
    → said_after q w.nodes ≡ collided → ⊥

-- document 02, request 7: "A leader would reply as ever, but 19 leaves none, so nobody replies to it intact": a Set Baud Rate that comes whole, whichever nodes get it
abbrev pub Unanswered : Type 0
Unanswered = (w : World) → Comes w → w.up ≡ true → (g : Group) (d at : ℕ) (p : List ℕ) → OnItsWay (sends (address.Group g) (SetBaudRate d)) at p w.line
    → (gets : ℕ → Bool) → said_after (record { at = at; bytes = p; gets = gets }) w.nodes ≡ silence

-- what a delivery to a table says on the line
abbrev pub said_in : Result Delivery Refusal → List ℕ → Said
said_in (Ok Silent) left = silence
said_in (Ok (Replied n)) left = reply (take n left)
said_in (Ok Collision) left = collided
said_in (Err why) left = silence

-- the chain's call over these nodes, with room for a reply, isn't refused for the table, and does to nodes and line what is said of the list where all nodes get the packet
pub record Delivers (ns : List Node) (at : ℕ) (q out : List ℕ) : Type 0 where
  pub taken : valid ns ≡ true
  pub nodes : (deliver_of ns at q out).left.nodes ≡ nodes_after (to_all at q) ns
  pub says : said_in (deliver_of ns at q out).answer (deliver_of ns at q out).left.reply ≡ said_after (to_all at q) ns

abbrev pub ByCall : Type 0
ByCall = (w : World) → Comes w → w.up ≡ true → (at : ℕ) (q out : List ℕ) → T + 2 ≤ length out → Delivers w.nodes at q out
