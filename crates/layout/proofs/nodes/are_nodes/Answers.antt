use Rattle.std.proofs.Common.{rules, arith}
use Rattle.fields.proofs.Turns.{bad, good, all_good}
use Rattle.layout.proofs.Fields.{nodes_many, nodes_start}
use Rattle.layout.proofs.nodes.are_nodes.Goals as goal

pub returns-then-count-gt-MOST_LENT : goal.returns-then-count-gt-MOST_LENT
returns-then-count-gt-MOST_LENT c = search nodes_many

pub loop-init : goal.loop-init
loop-init c = (omega arith, omega arith, search nodes_start)

pub returns-then-not-is_node : goal.returns-then-not-is_node
returns-then-not-is_node c = search bad

pub loop-preserved : goal.loop-preserved
loop-preserved c = (omega arith, search rules, search good)

pub returns : goal.returns
returns c = search all_good
