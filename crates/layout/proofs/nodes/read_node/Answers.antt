use Rattle.std.proofs.Common.{rules}
use Rattle.layout.specs.Nodes.{read_node}
use Rattle.layout.proofs.nodes.read_node.Goals as goal

pub returns-in-Gate : goal.returns-in-Gate
unfolding read_node
returns-in-Gate c = search rules

pub returns-in-Drive : goal.returns-in-Drive
unfolding read_node
returns-in-Drive c = search rules
