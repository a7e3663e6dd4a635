-- What the definitions mean: decimal numbers of their form; lines and their newlines.
use Prim.Native.Nat.{ℕ, ◌+◌, ◌-◌, ◌*◌, ◌/◌, ◌%◌, ◌≤◌, ◌<◌}
use Rattle.std.specs.Prelude.{Option, Some, None}
use mathlib.Core.Bool.{Bool, true, false, cond}
use mathlib.Core.List.{List, [], ◌∷◌, ◌++◌}
use mathlib.Core.Path.{◌≡◌, refl}
use native.Mathlib.Omega.{arith}
use lib.Dec.{ltb}
use lib.ListN.{length}
use borrow.Author.Tests.{lt-ltb, le-ltb, ne_eqb, ltb-true, ltb-false}
use Rattle.wire.proofs.Impossible.{impossible}
use Rattle.text.specs.Lines.{newline, lines_of}
use Rattle.text.specs.Digits.{value_of, decimal_of, two_digits, read_decimal}

-- ---- decimal numbers: of their form exactly if they are a number below 100, written in decimal

value_back : (v : ℕ) → v < 10 → value_of (48 + v) ≡ Some v
unfolding value_of
value_back v k =
    let z : (48 + v) - 48 ≡ v = omega arith in
    rw (le-ltb (48 + v) 48 (omega arith), lt-ltb (48 + v) 58 (omega arith), z)

pub decimal_reads : (n : ℕ) → n < 100 → read_decimal (decimal_of n) ≡ Some n
unfolding read_decimal decimal_of
decimal_reads n h = go (ltb n 10) refl
  where
    go : (t : Bool) → ltb n 10 ≡ t → read_decimal (cond t ((48 + n) ∷ []) ((48 + n / 10) ∷ (48 + n % 10) ∷ [])) ≡ Some n
    go true e =
        let x : n < 10 = ltb-true n 10 e in
        value_back n x
    go false e =
        let x : 10 ≤ n = ltb-false n 10 e in
        let y : n / 10 * 10 + n % 10 ≡ n = omega arith in
        rw (value_back (n / 10) (omega arith), value_back (n % 10) (omega arith), le-ltb (n / 10) 1 (omega arith), y)

-- what a decimal number of its form is
pub record Numeral (l : List ℕ) (n : ℕ) : Type 0 where
  pub same : l ≡ decimal_of n
  pub small : n < 100

-- a decimal digit has its value
record Digit (a v : ℕ) : Type 0 where
  pub is : 48 + v ≡ a
  pub small : v < 10

digit_of : (a v : ℕ) → value_of a ≡ Some v → Digit a v
unfolding value_of
digit_of a v e = go (ltb a 48) (ltb a 58) refl refl e
  where
    go : (t u : Bool) → ltb a 48 ≡ t → ltb a 58 ≡ u → cond t None (cond u (Some (a - 48)) None) ≡ Some v → Digit a v
    go true u x y e = impossible cc
    go false true x y e =
        let z : v ≡ a - 48 = cc in
        let k : 48 ≤ a = ltb-false a 48 x in
        let m : a < 58 = ltb-true a 58 y in
        record { is = omega arith; small = omega arith }
    go false false x y e = impossible cc

one_read : (a n : ℕ) → value_of a ≡ Some n → Numeral (a ∷ []) n
unfolding decimal_of
one_read a n e =
    let d = digit_of a n e in
    record { same = rw (lt-ltb n 10 d.small, d.is); small = omega (arith, d.small) }

two_read : (a b n : ℕ) → two_digits (value_of a) (value_of b) ≡ Some n → Numeral (a ∷ b ∷ []) n
unfolding decimal_of
two_read a b n e = by (value_of a) (value_of b) refl refl e
  where
    go : (v w : ℕ) (t : Bool) → value_of a ≡ Some v → value_of b ≡ Some w → ltb v 1 ≡ t → cond t None (Some (v * 10 + w)) ≡ Some n → Numeral (a ∷ b ∷ []) n
    go v w true p q x e = impossible cc
    go v w false p q x e =
        let d = digit_of a v p in
        let f = digit_of b w q in
        let k : 1 ≤ v = ltb-false v 1 x in
        let y = d.small in
        let o = f.small in
        let z : n ≡ v * 10 + w = cc in
        let i : (v * 10 + w) / 10 ≡ v = omega arith in
        let j : (v * 10 + w) % 10 ≡ w = omega arith in
        rw z (record { same = rw (le-ltb (v * 10 + w) 10 (omega arith), i, j, d.is, f.is); small = omega arith })

    by : (x y : Option ℕ) → value_of a ≡ x → value_of b ≡ y → two_digits x y ≡ Some n → Numeral (a ∷ b ∷ []) n
    by (Some v) (Some w) p q e = go v w (ltb v 1) p q refl e
    by (Some v) None p q e = impossible cc
    by None y p q e = impossible cc

pub decimal_written : (l : List ℕ) (n : ℕ) → read_decimal l ≡ Some n → Numeral l n
unfolding read_decimal
decimal_written [] n e = impossible cc
decimal_written (a ∷ []) n e = one_read a n e
decimal_written (a ∷ b ∷ []) n e = two_read a b n e
decimal_written (a ∷ b ∷ c ∷ s) n e =
    let x : read_decimal (a ∷ b ∷ c ∷ s) ≡ None =
    rw (ne_eqb (length (a ∷ b ∷ c ∷ s)) 1 (λ e. omega arith), ne_eqb (length (a ∷ b ∷ c ∷ s)) 2 (λ e. omega arith)) in
    impossible cc

-- ---- lines

-- l has no newline
abbrev pub Plain : List ℕ → Type 0
Plain [] = Unit {0}
Plain (b ∷ l) = (b ≡ newline → ⊥) × Plain l

-- "A newline ends each line"
pub lines_ended : (l s : List ℕ) → Plain l → lines_of (l ++ newline ∷ s) ≡ l ∷ lines_of s
lines_ended [] s h = refl
lines_ended (b ∷ l) s h = rw (ne_eqb b newline h.0, lines_ended l s h.1)

-- "the last may lack it"
pub lines_last : (b : ℕ) (l : List ℕ) → Plain (b ∷ l) → lines_of (b ∷ l) ≡ (b ∷ l) ∷ []
lines_last b [] h = rw (ne_eqb b newline h.0)
lines_last b (c ∷ l) h = rw (ne_eqb b newline h.0, lines_last c l h.1)
