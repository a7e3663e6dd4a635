-- The walk has not ended where its check passes.
use native.Mathlib.Omega.{arith}
use Rattle.walk.proofs.Passing.{next_walks}
use Rattle.walk.proofs.next.Goals as goal

pub overflow_add-k : goal.overflow_add-k
overflow_add-k c = omega (arith, next_walks _ _ _ c.next_check.ensures.answer c.in-Ok.is)
