-- By the range of the count.
use Rattle.script.proofs.Whole.{count_low, count_high, count_runs}
use Rattle.script.proofs.rehearsal.run_with.Goals as goal

pub returns-then-n-lt1 : goal.returns-then-n-lt1
returns-then-n-lt1 c = search count_low

pub returns-then-n-gt-MOST_NODES : goal.returns-then-n-gt-MOST_NODES
returns-then-n-gt-MOST_NODES c = search count_high

pub returns : goal.returns
returns c = search count_runs
