-- A step of the walk is within it.
use native.Mathlib.Omega.{arith}
use Rattle.reports.proofs.Closing.{giving_walks, asking_walks}
use Rattle.reports.proofs.noted.Goals as goal

pub overflow_add-s : goal.overflow_add-s
overflow_add-s c = omega (arith, giving_walks _ _ _ _ c.is_giving.ensures c.if-is_giving.true)

pub overflow_add-s-then-is_asking : goal.overflow_add-s-then-is_asking
overflow_add-s-then-is_asking c = omega (arith, asking_walks _ _ _ _ c.is_asking.ensures c.if-is_asking.true)
