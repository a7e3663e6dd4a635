-- By the length of the input, then by its first line.
use Rattle.script.proofs.Whole.{bench_long, bench_wrong, bench_runs, rest_short}
use Rattle.script.proofs.rehearsal.perform.Goals as goal

pub returns-then-input-gt-MOST : goal.returns-then-input-gt-MOST
returns-then-input-gt-MOST c = search bench_long

pub run_with-requires : goal.run_with-requires
run_with-requires c = search rest_short

pub returns-in-Some : goal.returns-in-Some
returns-in-Some c = search bench_runs

pub returns-in-None : goal.returns-in-None
returns-in-None c = search bench_wrong
