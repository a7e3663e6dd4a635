-- A time's digits, gone through from the first one on.
use Prim.Native.Nat.{ℕ, ◌+◌, ◌-◌, ◌*◌, ◌≤◌, ◌<◌}
use native.Mathlib.Omega.{arith}
use mathlib.Core.Logic.{inl, inr}
use mathlib.Core.List.{List}
use mathlib.Core.Path.{◌≡◌, sym, ◌∙◌}
use native.Mathlib.Numerals.{add-one}
use lib.ListN.{length, drop, get_or, drop_of_length-le}
use lib.Seq.{drop-cons}
use borrow.Author.Tests.{eq-eqb, ne_eqb, lt-ltb, le-ltb}
use Rattle.std.specs.Prelude.{Option, Some, None}
use Rattle.std.specs.Int.{IsInRange, IsOutOfRange}
use Rattle.text.specs.Digits.{value_of}
use Rattle.replay.specs.Times.{read_digits, read_time}

-- what the library's test of a digit says of its value
digit_value_lem : (b : ℕ) → IsInRange 48 57 b → value_of b ≡ Some (b - 48)
unfolding value_of
digit_value_lem b h = rw (le-ltb b 48 h.0, lt-ltb b 58 (omega (arith, h.1)))

other_value_lem : (b : ℕ) → IsOutOfRange 48 57 b → value_of b ≡ None
unfolding value_of
other_value_lem b (inl h) = rw (lt-ltb b 48 h)
other_value_lem b (inr h) = rw (le-ltb b 48 (omega arith), le-ltb b 58 (omega arith))

-- v is the number of the first i digits, t the time of all
module _ (s : List ℕ) (i v : ℕ) (t : Option ℕ) (e : read_digits v (drop i s) ≡ t) (h : i < length s) where
  pub digits_other : IsOutOfRange 48 57 (get_or s i 0) → None ≡ t
  digits_other a =
      let f : read_digits v (drop i s) ≡ None = rw (drop-cons s i 0 h, other_value_lem (get_or s i 0) a) in
      sym f ∙ e

  module _ (a : IsInRange 48 57 (get_or s i 0)) where
    pub digits_late : 4294967295 < v * 10 + (get_or s i 0 - 48) → None ≡ t
    digits_late b =
        let f : read_digits v (drop i s) ≡ None = rw (drop-cons s i 0 h, digit_value_lem (get_or s i 0) a, lt-ltb 4294967295 (v * 10 + (get_or s i 0 - 48)) b) in
        sym f ∙ e

    pub digits_on : v * 10 + (get_or s i 0 - 48) ≤ 4294967295 → read_digits (v * 10 + (get_or s i 0 - 48)) (drop (i + 1) s) ≡ t
    digits_on b =
        let f : read_digits v (drop i s) ≡ read_digits (v * 10 + (get_or s i 0 - 48)) (drop (i + 1) s) =
        rw (add-one i, drop-cons s i 0 h, digit_value_lem (get_or s i 0) a, le-ltb 4294967295 (v * 10 + (get_or s i 0 - 48)) b) in
        sym f ∙ e

pub digits_end : (s : List ℕ) (i v : ℕ) (t : Option ℕ) → read_digits v (drop i s) ≡ t → length s ≤ i → Some v ≡ t
digits_end s i v t e h =
    let f : read_digits v (drop i s) ≡ Some v = rw (drop_of_length-le s h) in
    sym f ∙ e

-- by how many digits there are, and by the first
pub time_none : (s : List ℕ) → length s < 1 → None ≡ read_time s
unfolding read_time
time_none s h = rw (lt-ltb (length s) 1 h)

pub time_one : (s : List ℕ) (r : Option ℕ) → r ≡ read_digits 0 s → 1 ≤ length s → length s < 2 → r ≡ read_time s
unfolding read_time
time_one s r e h k = rw (le-ltb (length s) 1 h, lt-ltb (length s) 2 k) e

pub time_zero : (s : List ℕ) → 1 ≤ length s → 2 ≤ length s → get_or s 0 0 ≡ 48 → None ≡ read_time s
unfolding read_time
time_zero s h k a = rw (le-ltb (length s) 1 h, le-ltb (length s) 2 k, eq-eqb (get_or s 0 0) 48 a)

pub time_more : (s : List ℕ) (r : Option ℕ) → r ≡ read_digits 0 s → 1 ≤ length s → 2 ≤ length s → (get_or s 0 0 ≡ 48 → ⊥) → r ≡ read_time s
unfolding read_time
time_more s r e h k a = rw (le-ltb (length s) 1 h, le-ltb (length s) 2 k, ne_eqb (get_or s 0 0) 48 a) e
