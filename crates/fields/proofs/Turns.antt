-- The loops over records that lie one behind the other, whatever they are of: what a turn does, and where they end.
use Prim.Native.Nat.{ℕ, zero, suc, ◌+◌, ◌-◌, ◌<◌, ◌≤◌}
use mathlib.Core.Bool.{Bool, true, false, not}
use mathlib.Core.List.{List, [], ◌∷◌, ◌++◌, map}
use mathlib.Core.Path.{◌≡◌, refl, sym, ap, ◌∙◌}
use native.Mathlib.Nat.{not-suc-le-zero, le_of_suc-le-suc, add_assoc, add-zero}
use native.Mathlib.Numerals.{add-one}
use native.Mathlib.Omega.{arith}
use lib.ListN.{length, get_or, set, take, drop, drop_of_length-le}
use lib.Seq.{drop-cons, drop-drop}
use borrow.Author.Tests.{not-true, not-false}
use Rattle.std.specs.List.{fold}
use Rattle.fields.specs.Record.{records_from, records_length, all_are, put_each}

-- the records from i on, which begin at a position: the next, and those behind it
module _ (long : List ℕ → ℕ) (i n at : ℕ) (s : List ℕ) where
  left : i < n → n - i ≡ suc (n - (i + 1))
  left h = omega arith

  none_left : n ≤ i → n - i ≡ 0
  none_left h = omega arith

  next : (r : List ℕ) (k : ℕ) → i < n → r ≡ drop at s → k ≡ long r → records_from long (n - i) (drop at s) ≡ r ∷ records_from long (n - (i + 1)) (drop (at + k) s)
  unfolding records_from
  next r k h e f = rw (left h, e, f, e, ← (drop-drop (long (drop at s)) at s))

  none : n ≤ i → records_from long (n - i) (drop at s) ≡ []
  unfolding records_from
  none h = rw (none_left h)

  -- how many bytes they have
  pub one_long : (r : List ℕ) (k : ℕ) → at + records_length long (n - i) (drop at s) ≡ records_length long n s → i < n → r ≡ drop at s → k ≡ long r
      → (at + k) + records_length long (n - (i + 1)) (drop (at + k) s) ≡ records_length long n s
  unfolding records_length
  one_long r k g h e f =
      rw (f, e, ← (drop-drop (long (drop at s)) at s), add_assoc at (long (drop at s)) (records_length long (n - (i + 1)) (drop (long (drop at s)) (drop at s)))) (rw (left h) at g)

  pub all_long : at + records_length long (n - i) (drop at s) ≡ records_length long n s → n ≤ i → at ≡ records_length long n s
  unfolding records_length
  all_long g h = sym (add-zero at) ∙ (rw (none_left h) at g)

  -- whether all are of their form: by those that are left to look at
  module _ (is : List ℕ → Bool) (w : Bool) (h : all_are is (records_from long (n - i) (drop at s)) ≡ w) where
    pub bad : (r : List ℕ) (t : Bool) → i < n → r ≡ drop at s → t ≡ is r → not t ≡ true → false ≡ w
    unfolding all_are
    bad r t l e f g = rw (next r (long r) l e refl, ← f, not-true t g) at h

    pub good : (r : List ℕ) (t : Bool) (k : ℕ) → i < n → r ≡ drop at s → t ≡ is r → not t ≡ false → k ≡ long r → all_are is (records_from long (n - (i + 1)) (drop (at + k) s)) ≡ w
    unfolding all_are
    good r t k l e f g m = rw (next r k l e m, ← f, not-false t g) at h

    pub all_good : n ≤ i → true ≡ w
    unfolding all_are
    all_good l = rw (none l) at h

-- reading them into an array: what is read, then what the rest will give, is the answer
module _ {A : Type 0} (long : List ℕ → ℕ) (read : List ℕ → A) where
  stored : (l : List A) (i : ℕ) (a : A) (r : List A) → i < length l → take (suc i) (set l i a) ++ r ≡ take i l ++ (a ∷ r)
  stored [] i a r h = absurd (not-suc-le-zero h)
  stored (x ∷ l) zero a r h = refl
  stored (x ∷ l) (suc i) a r h = ap (λ (t : List A). x ∷ t) (stored l i a r (le_of_suc-le-suc h))

  whole : (l : List A) (i : ℕ) → length l ≤ i → take i l ++ [] ≡ l
  whole [] zero h = refl
  whole [] (suc i) h = refl
  whole (x ∷ l) zero h = absurd (not-suc-le-zero h)
  whole (x ∷ l) (suc i) h = ap (λ (t : List A). x ∷ t) (whole l i (le_of_suc-le-suc h))

  -- the array, with the records from i on
  abbrev pub Reading : (n : ℕ) → List ℕ → List A → (i at : ℕ) → Type 0
  Reading n s l i at = take i l ++ map read (records_from long (n - i) (drop at s)) ≡ map read (records_from long n s)

  pub one_read : (n : ℕ) (s r : List ℕ) (l : List A) (i at k : ℕ) (a : A) → Reading n s l i at → i < n → i < length l → r ≡ drop at s → a ≡ read r → k ≡ long r
      → Reading n s (set l i a) (i + 1) (at + k)
  one_read n s r l i at k a h lt inside e f g =
      rw (add-one i, stored l i a (map read (records_from long (n - suc i) (drop (at + k) s))) inside, f, ← (add-one i))
      (rw (next long i n at s r k lt e g) at h)

  pub all_read : (n : ℕ) (s : List ℕ) (l : List A) (i at : ℕ) → Reading n s l i at → n ≤ i → length l ≤ i → l ≡ map read (records_from long n s)
  all_read n s l i at h le inside = sym (whole l i inside) ∙ rw (none long i n at s le) at h

-- putting all of an array: what is put, and then what the rest will give, is the answer
module _ {A B : Type 0} (put : A → B → A) where
  pub one_put : (l : List B) (a b w : A) (i : ℕ) (d : B) → put_each put a (drop i l) ≡ w → i < length l → b ≡ put a (get_or l i d) → put_each put b (drop (i + 1) l) ≡ w
  unfolding put_each
  one_put l a b w i d h lt e = rw (e, add-one i) (rw (drop-cons l i d lt) at h)

  pub all_put : (l : List B) (a w : A) (i : ℕ) → put_each put a (drop i l) ≡ w → length l ≤ i → a ≡ w
  unfolding put_each
  all_put l a w i h le = rw (drop_of_length-le l {i = i} le) at h

-- and a fold over it
pub each_folded : {A B : Type 0} (put : A → B → A) (a : A) (l : List B) → fold put a l ≡ put_each put a l
unfolding put_each
each_folded put a [] = refl
each_folded put a (x ∷ l) = each_folded put (put a x) l
