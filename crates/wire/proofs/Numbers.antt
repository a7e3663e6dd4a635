-- The range of a refusal's number, whichever it is: a new refusal has one row here, and every other law goes by these three.
use Prim.Native.Nat.{ℕ, ◌<◌}
use mathlib.Core.Bool.{Bool, true, not, ◌&&◌, true≢false}
use mathlib.Core.Path.{◌≡◌, refl, sym, ◌∙◌}
use native.Mathlib.Omega.{arith}
use lib.Dec.{ltb, eqb}
use borrow.Author.Tests.{ltb-true, eq-eqb, not-true}
use Rattle.wire.specs.Numbers.{done, number_of, collision}
use Rattle.wire.specs.declared.refusal.Refusal.{Refusal}
use Rattle.wire.specs.declared.refusal.Refusal.TheVariants as refusal
use Rattle.wire.proofs.Choice.{both}

-- neither 0 nor 13, which are no refusals, and of one or two digits
abbrev refuses : ℕ → Bool
refuses n = ltb done n && ltb n 100 && not (eqb n collision)

in_range_lem : (why : Refusal) → refuses (number_of why) ≡ true
in_range_lem refusal.Short = refl
in_range_lem refusal.Header = refl
in_range_lem refusal.Long = refl
in_range_lem refusal.Sum = refl
in_range_lem refusal.Room = refl
in_range_lem refusal.Range = refl
in_range_lem refusal.Busy = refl
in_range_lem refusal.Idle = refl
in_range_lem refusal.NotDue = refl
in_range_lem refusal.NoNode = refl
in_range_lem refusal.Led = refl
in_range_lem refusal.Closed = refl
in_range_lem refusal.Line = refl
in_range_lem refusal.Uneven = refl
in_range_lem refusal.Backward = refl
in_range_lem refusal.Lacked = refl
in_range_lem refusal.Divisor = refl
in_range_lem refusal.Answerable = refl

-- each of its tests holds
module _ (n : ℕ) (h : refuses n ≡ true) where
  ranged : (ltb done n ≡ true) × (ltb n 100 ≡ true)
  ranged = both (ltb done n) (ltb n 100) (both (ltb done n && ltb n 100) (not (eqb n collision)) h).0

  other : n ≡ collision → ⊥
  other e = true≢false (sym (eq-eqb n collision e) ∙ not-true (eqb n collision) (both (ltb done n && ltb n 100) (not (eqb n collision)) h).1)

-- no refusal has the number of a call that is done
pub not_done : (why : Refusal) → number_of why ≡ done → ⊥
not_done why e = let h : done < number_of why = ltb-true done (number_of why) (ranged (number_of why) (in_range_lem why)).0 in omega arith

-- nor that of several replies
pub not_collision : (why : Refusal) → number_of why ≡ collision → ⊥
not_collision why = other (number_of why) (in_range_lem why)

-- one or two digits hold it
pub number_small : (why : Refusal) → number_of why < 100
number_small why = ltb-true (number_of why) 100 (ranged (number_of why) (in_range_lem why)).1
