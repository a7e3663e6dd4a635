-- Invariant: what is read, then what the rest will give, is the answer.
use Rattle.std.proofs.Common.{◌≡◌, ◌*◌, ◌≤◌, length}
use Rattle.fields.proofs.Turns.{Reading}
use Rattle.layout.specs.Nodes.{node_length, read_node}
use Rattle.layout.proofs.nodes.read_nodes.Given as goal

abbrev pub invariant-loop-node : goal.invariant-loop-node
invariant-loop-node l = (l.at ≤ 65 * l.node-index) × (length l.node-items ≡ 33) × Reading node_length read_node 33 l.s l.node-items l.node-index l.at
