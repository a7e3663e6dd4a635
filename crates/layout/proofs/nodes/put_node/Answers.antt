use Rattle.std.proofs.Common.{rules}
use Rattle.layout.specs.Nodes.{put_node}
use Rattle.layout.proofs.nodes.put_node.Goals as goal

pub returns : goal.returns
unfolding put_node
returns c = search rules
