-- What the library's `is_sorted` says of times.
use Prim.Native.Nat.{ℕ, suc, ◌+◌, ◌≤◌, ◌<◌}
use native.Mathlib.Omega.{arith}
use native.Mathlib.Numerals.{add-one}
use mathlib.Core.List.{List}
use mathlib.Core.Bool.{Bool, true, false}
use mathlib.Core.Path.{◌≡◌, refl, sym}
use lib.ListN.{length, get_or}
use Rattle.std.specs.Bool.{MatchBool}
use Rattle.std.specs.Ordering.{nat_cmp, is_le, is_some_and}
use Rattle.std.specs.List.{IsAllAdjacentAnswer}
use Rattle.std.specs.List.Sorted.{IsNonDecreasing}
use Rattle.std.specs.Prelude.{Some}
use Rattle.std.proofs.lemmas.List.Sorted.{non_decreasing_from_is_sorted}
use Rattle.capture.specs.Checks.{is_rising}
use Rattle.capture.proofs.Meaning.{rises_ordered, ordered_rises}

falls : (b : Bool) → (b ≡ true → ⊥) → false ≡ b
falls true h = absurd (h refl)
falls false h = refl

by_answer : (r : Bool) (ts : List ℕ) → MatchBool r (IsNonDecreasing ts) ((k : ℕ) × (k + 1 < length ts) × ((d : ℕ) → get_or ts (k + 1) d < get_or ts k d)) → r ≡ is_rising ts
by_answer true ts h = sym (ordered_rises ts (λ i k. h i (suc i) 0 (omega arith) k))
by_answer false ts h = falls (is_rising ts) (λ e. let a : get_or ts h.0 0 ≤ get_or ts (h.0 + 1) 0 = rw add-one (rises_ordered ts e h.0 (omega (arith, h.1))) in omega (arith, h.2 0))

pub sorted_rises : (r : Bool) (ts : List ℕ) → IsAllAdjacentAnswer (λ x y b. is_some_and is_le (Some (nat_cmp x y)) ≡ b) ts r → r ≡ is_rising ts
sorted_rises r ts h = by_answer r ts (non_decreasing_from_is_sorted ts r h)
