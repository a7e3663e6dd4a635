use native.Mathlib.Omega.{arith}
use Rattle.mask.proofs.Sizes.{counted_none, counted_room, counted_one, counted_all}
use Rattle.mask.proofs.size.Goals as goal

pub loop-count-init : goal.loop-count-init
loop-count-init c = counted_none _ _ _ c.counts-counts.ensures

pub overflow_add-n : goal.overflow_add-n
overflow_add-n c = omega (arith, counted_room _ _ _ _ _ _ c.loop-count.invariant c.loop-count-test.true c.asked_count-n.ensures)

pub loop-count-preserved : goal.loop-count-preserved
loop-count-preserved c = counted_one _ _ _ _ _ _ c.loop-count.invariant c.loop-count-test.true c.asked_count-n.ensures

pub returns : goal.returns
returns c = counted_all _ _ _ _ _ _ c.counts-counts.ensures c.loop-count.invariant (omega arith)
