use Rattle.std.proofs.Common.{rules}
use Rattle.layout.specs.Nodes.{is_node}
use Rattle.layout.proofs.nodes.is_node.Goals as goal

pub returns : goal.returns
unfolding is_node
returns c = search rules
