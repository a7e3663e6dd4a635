use Rattle.std.proofs.Common.{rules}
use Rattle.layout.specs.Nodes.{read_drive_node}
use Rattle.layout.proofs.nodes.read_drive_node.Goals as goal

pub returns : goal.returns
unfolding read_drive_node
returns c = search rules
