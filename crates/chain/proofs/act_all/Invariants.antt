-- The invariant: the nodes that are left to act, over the table as it is, give the whole. The set gets smaller.
use Rattle.std.proofs.Common.{◌≡◌, ◌<◌, ◌^◌}
use Rattle.survey.specs.Decision.{act_all}
use Rattle.chain.proofs.act_all.Given as goal

abbrev pub invariant-loop-i : goal.invariant-loop-i
invariant-loop-i l = (act_all l.decided.messages l.rest l.table ≡ act_all l.decided.messages l.decided.acting l.initial.table) × (l.rest < 2 ^ 32)

abbrev pub decreases-loop-i : goal.decreases-loop-i
decreases-loop-i l = l.rest
