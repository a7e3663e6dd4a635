-- The invariant: what was found, then the repliers from node i on, is who replies.
use Rattle.std.proofs.Common.{◌-◌}
use Rattle.survey.proofs.Searching.{Searched}
use Rattle.survey.proofs.sets.search.Given as goal

abbrev pub invariant-loop-i : goal.invariant-loop-i
invariant-loop-i l = Searched l.replying l.n l.rest l.i l.found

abbrev pub decreases-loop-i : goal.decreases-loop-i
decreases-loop-i l = l.n - l.i
