-- What the checks mean, and what a good recording is.
use Prim.Native.Nat.{ℕ, zero, suc, ◌≤◌, ◌<◌}
use native.Mathlib.Omega.{arith}
use mathlib.Core.Path.{◌≡◌, refl, sym, subst}
use mathlib.Core.Bool.{Bool, true, false, cond}
use mathlib.Core.List.{List, [], ◌∷◌}
use lib.ListN.{length, get_or}
use lib.Dec.{T, ltb}
use borrow.Author.Tests.{ltb-false, le-ltb, eqb-true}
use Rattle.capture.specs.Checks.{rises_from, is_rising, is_even, check_of}
use Rattle.std.specs.Prelude.{Result, Ok, Err}
use Rattle.wire.specs.declared.refusal.Refusal.{Refusal}
use Rattle.wire.specs.declared.refusal.Refusal.TheVariants.{Uneven, Backward}

-- "a time is less than the one before" nowhere
abbrev pub Ordered : List ℕ → Type 0
Ordered ts = (i : ℕ) → suc i < length ts → get_or ts i 0 ≤ get_or ts (suc i) 0

pub not_false : (g : Bool) (x : Bool) → cond g false x ≡ true → g ≡ false
not_false true x h = absurd (subst T (sym h) tt)
not_false false x h = refl

pub then_rest : (g : Bool) (x : Bool) → cond g false x ≡ true → x ≡ true
then_rest true x h = absurd (subst T (sym h) tt)
then_rest false x h = h

from_ordered : (t : ℕ) (ts : List ℕ) → rises_from t ts ≡ true → Ordered (t ∷ ts)
from_ordered t [] h i k = absurd (omega arith)
from_ordered t (u ∷ ts) h zero k = ltb-false u t (not_false (ltb u t) (rises_from u ts) h)
from_ordered t (u ∷ ts) h (suc i) k = from_ordered u ts (then_rest (ltb u t) (rises_from u ts) h) i (omega arith)

ordered_from : (t : ℕ) (ts : List ℕ) → Ordered (t ∷ ts) → rises_from t ts ≡ true
ordered_from t [] h = refl
ordered_from t (u ∷ ts) h = rw (le-ltb u t (h 0 (omega arith))) (ordered_from u ts (λ i k. h (suc i) (omega arith)))

-- a rising capture is one in which no time is less than the one before, and the other way round
pub rises_ordered : (ts : List ℕ) → is_rising ts ≡ true → Ordered ts
unfolding is_rising
rises_ordered ts h i k = from_ordered 0 ts h (suc i) (omega arith)

pub ordered_rises : (ts : List ℕ) → Ordered ts → is_rising ts ≡ true
unfolding is_rising
ordered_rises [] h = refl
ordered_rises (t ∷ ts) h = rw (le-ltb t 0 (omega arith)) (ordered_from t ts h)

-- what a walk may count on once the checks are through
pub record Sound (cs cts rs rts : List ℕ) : Type 0 where
  pub command_number : length cts ≡ length cs
  pub reply_number : length rts ≡ length rs
  pub command_order : Ordered cts
  pub reply_order : Ordered rts

abbrev IsGood : Result (Unit {0}) Refusal → Type 0
IsGood (Ok u) = Unit
IsGood (Err why) = ⊥

peel : (a b c d : Bool) → IsGood (cond a (cond b (cond c (cond d (Ok tt) (Err Backward)) (Err Backward)) (Err Uneven)) (Err Uneven)) → (a ≡ true) × (b ≡ true) × (c ≡ true) × (d ≡ true)
peel true true true true h = (refl, refl, refl, refl)
peel true true true false h = absurd h
peel true true false d h = absurd h
peel true false c d h = absurd h
peel false b c d h = absurd h

pub good_sound : (cs cts rs rts : List ℕ) → check_of cs cts rs rts ≡ Ok tt → Sound cs cts rs rts
unfolding check_of
good_sound cs cts rs rts e =
    let p = peel (is_even cs cts) (is_even rs rts) (is_rising cts) (is_rising rts) (subst IsGood (sym e) tt) in
    record {
      command_number = sym (eqb-true (length cs) (length cts) p.0);
      reply_number = sym (eqb-true (length rs) (length rts) p.1);
      command_order = rises_ordered cts p.2;
      reply_order = rises_ordered rts p.3;
    }
