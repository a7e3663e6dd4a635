-- The invariant: what is seen so far, and then the rest of the table, is the look at all of it.
use Rattle.std.proofs.Common.{◌≡◌, drop}
use Rattle.survey.specs.Survey.{chain_start, glances_of}
use Rattle.chain.proofs.survey_all.Given as goal

abbrev pub invariant-loop-n : goal.invariant-loop-n
invariant-loop-n l = glances_of l.incoming l.seen (drop l.n-index l.table) ≡ glances_of l.incoming chain_start l.table
