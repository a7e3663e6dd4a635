-- T and the longest reply by their numbers, and the tables of counts beside them.
use Prim.Native.Nat.{ℕ, ◌≤◌}
use mathlib.Core.List.{[]}
use mathlib.Core.Path.{◌≡◌, refl}
use native.Mathlib.Omega.{arith}
use lib.ListN.{length, drop}
use Rattle.wire.specs.declared.kind.Kind.{Kind}
use Rattle.wire.specs.declared.kind.Kind.TheVariants.{Gate, Drive}
use Rattle.status.specs.Status.{counts, all_of, T, most_reply}

-- the list decides: 17, where the paper's "0 to 16" would be one less
pub total : ◌≡◌ {A = ℕ} T 17
total = refl

pub longest : ◌≡◌ {A = ℕ} most_reply 19
longest = refl

-- "T being the larger": no kind has more
pub all_fit : (k : Kind) → all_of (counts k) ≤ T
unfolding counts
all_fit Gate = omega arith
all_fit Drive = omega arith

-- a count for each bit of the mask, and none past them
pub eight_counts : (k : Kind) → length (counts k) ≡ 8
unfolding counts
eight_counts Gate = refl
eight_counts Drive = refl

pub counts_end : (k : Kind) → drop 8 (counts k) ≡ []
unfolding counts
counts_end Gate = refl
counts_end Drive = refl
