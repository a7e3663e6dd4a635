-- How many bytes a mask asks for: never more than T, of either kind.
use Prim.Native.Nat.{ℕ, suc, ◌+◌, ◌≤◌}
use mathlib.Core.Bool.{Bool, true, false}
use mathlib.Core.List.{List, [], ◌∷◌}
use native.Mathlib.Omega.{arith}
use Rattle.wire.specs.declared.kind.Kind.{Kind}
use Rattle.status.specs.Status.{counts, all_of, T}
use Rattle.status.proofs.Laws.{all_fit}
use Rattle.mask.specs.Mask.{bit, asked_count, count_from, size_of}

asked_at_most : (t : Bool) (n : ℕ) → asked_count t n ≤ n
asked_at_most true n = omega arith
asked_at_most false n = omega arith

pub count_at_most : (k m : ℕ) (ns : List ℕ) → count_from k m ns ≤ all_of ns
count_at_most k m [] = omega arith
count_at_most k m (n ∷ ns) = omega (arith, asked_at_most (bit k m) n, count_at_most (suc k) m ns)

pub count_fits : (k : Kind) (m : ℕ) → count_from 0 m (counts k) ≤ T
count_fits k m = omega (arith, count_at_most 0 m (counts k), all_fit k)

-- "2 to T + 2 bytes"
pub size_range : (k : Kind) (m : ℕ) → (2 ≤ size_of k m) × (size_of k m ≤ T + 2)
unfolding size_of
size_range k m = (omega arith, omega (arith, count_fits k m))
