-- Each digit is 9 at most.
use Prim.Native.Nat.{◌≤◌}
use mathlib.Core.Path.{sym, ◌∙◌}
use native.Mathlib.Omega.{arith}
use Rattle.text.proofs.Numerals.{value_small}
use Rattle.text.proofs.digits.two_digits.Goals as goal

pub overflow_mul-result : goal.overflow_mul-result
overflow_mul-result c =
    let t : c.in_ok-tens.tens ≤ 9 = value_small _ _ (sym c.value.ensures ∙ c.in_ok-tens.was) in
    omega arith

pub overflow_add-result : goal.overflow_add-result
overflow_add-result c =
    let t : c.in_ok-tens.tens ≤ 9 = value_small _ _ (sym c.value.ensures ∙ c.in_ok-tens.was) in
    let o : c.in_ok-ones.ones ≤ 9 = value_small _ _ (sym c.value-2.ensures ∙ c.in_ok-ones.was) in
    omega arith
