use Rattle.std.proofs.Common.{rules, refl, arith}
use Rattle.layout.proofs.Fields.{node_more, nodes_end}
use Rattle.layout.proofs.nodes.read_nodes.Goals as goal

pub loop-node-init : goal.loop-node-init
loop-node-init c = (omega arith, refl, refl)

pub loop-node-preserved : goal.loop-node-preserved
loop-node-preserved c = (search rules, search rules, search node_more)

pub returns : goal.returns
returns c = search nodes_end
