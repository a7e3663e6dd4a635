use borrow.Author.Rules.{rules}
use Rattle.tryrecording.proofs.Writes.{still_start, each_long}
use Rattle.tryrecording.proofs.Walks.{stage_down, stage_small, stage_on, stage_done, small_at, walk_small, stage_last}
use Rattle.tryrecording.proofs.steps.put_steps_from.Goals as goal

pub loop-next-init : goal.loop-next-init
loop-next-init c = (search rules, search walk_small, search rules, search still_start)

pub put_event_bytes-at-requires : goal.put_event_bytes-at-requires
put_event_bytes-at-requires c = search small_at

pub shape_of-out-then-next : goal.shape_of-out-then-next
shape_of-out-then-next c = search each_long

pub returns-then-next : goal.returns-then-next
returns-then-next c = (search stage_done, search stage_last)

pub loop-next-smaller : goal.loop-next-smaller
loop-next-smaller c = search stage_down

pub loop-next-preserved : goal.loop-next-preserved
loop-next-preserved c = (search rules, search stage_small, search each_long, search stage_on)
