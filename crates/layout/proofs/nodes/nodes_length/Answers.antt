use Rattle.std.proofs.Common.{rules, arith}
use Rattle.fields.proofs.Turns.{one_long}
use Rattle.layout.proofs.Fields.{long_many, long_start, long_end}
use Rattle.layout.proofs.nodes.nodes_length.Goals as goal

pub returns-then-count-gt-MOST_LENT : goal.returns-then-count-gt-MOST_LENT
returns-then-count-gt-MOST_LENT c = search long_many

pub loop-init : goal.loop-init
loop-init c = (omega arith, omega arith, search long_start)

pub loop-preserved : goal.loop-preserved
loop-preserved c = (omega arith, search rules, search one_long)

pub returns : goal.returns
returns c = search long_end
