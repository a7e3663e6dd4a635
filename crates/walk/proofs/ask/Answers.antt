-- The walk has not ended where its check passes.
use native.Mathlib.Omega.{arith}
use Rattle.walk.proofs.Passing.{ask_walks}
use Rattle.walk.proofs.ask.Goals as goal

pub overflow_add-to : goal.overflow_add-to
overflow_add-to c = omega (arith, ask_walks _ _ _ c.ask_check.ensures.answer c.in-Ok.is)
