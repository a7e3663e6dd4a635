-- The chain's table as its owner keeps it: "an array with a count", of which the first `count` nodes are the chain.
use Rattle.std.specs.Prelude.{ℕ, ◌+◌, List, ◌++◌, take, drop, Result}
use Rattle.wire.specs.Promise.{Outcome}
use Rattle.wire.specs.Numbers.{most_nodes}
use Rattle.wire.specs.declared.refusal.Refusal.{Refusal}
use Rattle.node.specs.declared.state.Node.{Node}
use Rattle.survey.specs.declared.decision.Delivery.{Delivery}
use Rattle.survey.specs.Delivery.{Lent, deliver_of, delivery_number}
use Rattle.table.specs.declared.Table.{Table}
use Rattle.table.specs.declared.Delivered.{Delivered}

-- how many nodes a table has room for: two more than a chain may have
abbrev pub table_room : ℕ
table_room = most_nodes + 2

-- the chain that a table holds
abbrev pub nodes_of : Table → List Node
nodes_of t = take t.count t.nodes

-- the table with these nodes for its chain; those past the count stay
abbrev pub with_nodes : Table → List Node → Table
with_nodes t ns = record { nodes = ns ++ drop t.count t.nodes; count = t.count }

-- the answer with its table, and what the reply buffer holds
abbrev pub kept_by : Table → Outcome (Result Delivery Refusal) Lent → Outcome Delivered (List ℕ)
kept_by t o = record { answer = record { answer = o.answer; table = with_nodes t o.left.nodes }; left = o.left.reply }

-- a packet to the chain that the table holds, sent at a divisor
unfoldable pub table_deliver : Table → ℕ → List ℕ → List ℕ → Outcome Delivered (List ℕ)
table_deliver t at p out = kept_by t (deliver_of (nodes_of t) at p out)

-- the number of a delivery
abbrev pub delivered_number : Delivered → ℕ
delivered_number d = delivery_number d.answer
