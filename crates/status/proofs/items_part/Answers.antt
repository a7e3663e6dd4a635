-- All but the first byte and the last; without a second byte it is none, at the end.
use borrow.Author.Rules.{rules}
use native.Mathlib.Omega.{arith}
use Prim.Native.Nat.{ℕ, ◌-◌, ◌<◌}
use mathlib.Core.Path.{◌≡◌}
use mathlib.Core.List.{List, []}
use lib.ListN.{length, take, drop}
use Rattle.wire.proofs.Parts.{none_left}
use Rattle.status.specs.Status.{items_part}
use Rattle.status.proofs.items_part.Goals as goal

none : (s : List ℕ) → length s < 2 → [] ≡ items_part s
unfolding items_part
none s h = let k : length s - 2 ≡ 0 = omega arith in rw k

between : (s : List ℕ) → take (length s - 1 - 1) (drop 1 s) ≡ items_part s
unfolding items_part
between s = let k : length s - 1 - 1 ≡ length s - 2 = omega arith in rw k

pub returns-then-s-lt2 : goal.returns-then-s-lt2
returns-then-s-lt2 c = search (none_left, none, rules)

pub returns : goal.returns
returns c = search (between, rules)
