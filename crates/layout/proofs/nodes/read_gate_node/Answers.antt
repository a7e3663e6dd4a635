use Rattle.std.proofs.Common.{rules}
use Rattle.layout.specs.Nodes.{read_gate_node}
use Rattle.layout.proofs.nodes.read_gate_node.Goals as goal

pub returns : goal.returns
unfolding read_gate_node
returns c = search rules
