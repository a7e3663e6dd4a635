-- A mask, taken apart bit by bit beside the table of counts.
use Prim.Native.Nat.{ℕ, suc, ◌+◌, ◌/◌, ◌%◌, ◌^◌, ◌≤◌, ◌<◌}
use mathlib.Core.List.{List}
use mathlib.Core.Path.{◌≡◌, refl, sym, ap, ◌∙◌}
use native.Mathlib.Omega.{arith}
use native.Mathlib.Nat.{div-one, pow-suc, div-div-eq-div-mul}
use native.Mathlib.Numerals.{add-one}
use lib.Dec.{eqb}
use lib.ListN.{length, drop, get_or}
use lib.Seq.{drop-cons}
use Rattle.wire.specs.declared.kind.Kind.{Kind}
use Rattle.status.specs.Status.{counts, all_of, T}
use Rattle.status.proofs.Laws.{all_fit, eight_counts, counts_end}
use Rattle.mask.specs.Mask.{asked_count, count_from, size_of}
use Rattle.mask.proofs.Counts.{count_at_most}

-- the bits that are left behind the lowest i: none are taken, or one more is
pub bits_first : (m : ℕ) → m ≡ m / 2 ^ 0
bits_first m = sym (div-one m)

pub bits_next : (m bits i : ℕ) → bits ≡ m / 2 ^ i → bits / 2 ≡ m / 2 ^ suc i
bits_next m bits i e = ap (λ (b : ℕ). b / 2) e ∙ div-div-eq-div-mul m (2 ^ i) 2 ∙ ap (λ (x : ℕ). m / x) (sym (pow-suc 2 i))

-- i counts of a table are gone through, and n counted: with what the rest will give, that is the size by that table
pub record Counted (m : ℕ) (t : List ℕ) (bits n i : ℕ) : Type 0 where
  pub eight : length t ≡ 8
  pub fits : all_of t ≤ T
  pub left : bits ≡ m / 2 ^ i
  pub going : n + count_from i m (drop i t) ≡ 2 + count_from 0 m t

pub counted_none : (k : Kind) (m : ℕ) (t : List ℕ) → t ≡ counts k → Counted m t m 2 0
counted_none k m t e = record { eight = rw e (eight_counts k); fits = rw e (all_fit k); left = bits_first m; going = refl }

module _ (m bits n i r : ℕ) (t : List ℕ) (c : Counted m t bits n i) (h : i < 8) (e : r ≡ asked_count (eqb (bits % 2) 1) (get_or t i 0)) where
  next : n + (r + count_from (suc i) m (drop (suc i) t)) ≡ 2 + count_from 0 m t
  next = rw (e, c.left, ← (ap (count_from i m) (drop-cons t i 0 (omega (arith, c.eight))))) c.going

  pub counted_room : n + r ≤ T + 2
  counted_room = omega (arith, next, c.fits, count_at_most 0 m t)

  pub counted_one : Counted m t (bits / 2) (n + r) (i + 1)
  counted_one = rw (add-one i) (record { eight = c.eight; fits = c.fits; left = bits_next m bits i c.left; going = omega (arith, next) })

pub counted_all : (k : Kind) (m bits n i : ℕ) (t : List ℕ) → t ≡ counts k → Counted m t bits n i → i ≡ 8 → n ≡ size_of k m
unfolding size_of
counted_all k m bits n i t e c h =
    let z : count_from i m (drop i t) ≡ 0 = rw (h, e, counts_end k) in
    let s : 2 + count_from 0 m t ≡ 2 + count_from 0 m (counts k) = ap (λ (l : List ℕ). 2 + count_from 0 m l) e in
    omega (arith, c.going)
