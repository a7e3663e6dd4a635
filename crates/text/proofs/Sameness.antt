-- The loop of `is_same`: the answer is what the bytes that are left give; and what the answer means.
use Prim.Native.Nat.{ℕ}
use mathlib.Core.Bool.{Bool, true, false, cond, ◌&&◌, false≢true}
use mathlib.Core.List.{List, [], ◌∷◌}
use mathlib.Core.Path.{◌≡◌, refl}
use lib.Dec.{eqb}
use borrow.Author.Tests.{eq-eqb, eqb-true}
use lib.Pointwise.{pointwise}
use Rattle.text.specs.Same.{is_same}

chosen : (t u : Bool) → (t && u) ≡ cond t u false
chosen true u = refl
chosen false u = refl

-- the library's test of two slices
pub pointwise_same : (a b : List ℕ) → pointwise eqb a b ≡ is_same a b
pointwise_same [] [] = refl
pointwise_same [] (y ∷ b) = refl
pointwise_same (x ∷ a) [] = refl
pointwise_same (x ∷ a) (y ∷ b) = rw (pointwise_same a b) (chosen (eqb x y) (is_same a b))

-- the same bytes are the same, and no others
pub same_self : (a : List ℕ) → is_same a a ≡ true
same_self [] = refl
same_self (x ∷ a) = rw (eq-eqb x x refl) (same_self a)

by_first : (g : Bool) (x y : ℕ) (a b : List ℕ) → eqb x y ≡ g → (is_same a b ≡ true → a ≡ b) → cond g (is_same a b) false ≡ true → x ∷ a ≡ y ∷ b
by_first true x y a b e f k = rw (eqb-true x y e, f k)
by_first false x y a b e f k = absurd (false≢true k)

pub same_says : (a b : List ℕ) → is_same a b ≡ true → a ≡ b
same_says [] [] h = refl
same_says [] (y ∷ b) h = absurd (false≢true h)
same_says (x ∷ a) [] h = absurd (false≢true h)
same_says (x ∷ a) (y ∷ b) h = by_first (eqb x y) x y a b refl (same_says a b) h
