-- The value of a hex digit of either case by its bits: the low four, and nine more for a letter.
use Prim.Native.Nat.{ℕ, ◌+◌, ◌-◌, ◌*◌, ◌/◌, ◌%◌, ◌≤◌, ◌<◌}
use mathlib.Core.Bool.{Bool, true, false, ◌&&◌}
use mathlib.Core.Path.{◌≡◌, refl}
use native.Mathlib.Omega.{arith}
use lib.Dec.{ltb}
use borrow.Author.Tests.{lt-ltb, le-ltb, ltb-true, ltb-false}
use Rattle.wire.proofs.Choice.{both}
use Rattle.wire.proofs.Impossible.{impossible}
use Rattle.hexadecimal.specs.Digits.{digit_of}
use Rattle.sheet.specs.Line.{either_digit}

-- ---- no digit

pub none_below : (b : ℕ) → b < 48 → 16 ≡ either_digit b
unfolding either_digit digit_of
none_below b h = rw (lt-ltb b 97 (omega arith), lt-ltb b 48 h)

pub none_above : (b : ℕ) → 102 < b → 16 ≡ either_digit b
unfolding either_digit digit_of
none_above b h =
    rw (le-ltb b 97 (omega arith), le-ltb (b - 32) 48 (omega arith), le-ltb (b - 32) 58 (omega arith), le-ltb (b - 32) 65 (omega arith), le-ltb (b - 32) 71 (omega arith))

-- between the decimal digits and the capitals, and between the capitals and the small letters
pub none_first : (b : ℕ) → (ltb 57 b && ltb b 65) ≡ true → 16 ≡ either_digit b
unfolding either_digit digit_of
none_first b e =
    let h : 57 < b = ltb-true 57 b (both (ltb 57 b) (ltb b 65) e).0 in
    let k : b < 65 = ltb-true b 65 (both (ltb 57 b) (ltb b 65) e).1 in
    rw (lt-ltb b 97 (omega arith), le-ltb b 48 (omega arith), le-ltb b 58 h, lt-ltb b 65 k)

pub none_second : (b : ℕ) → (ltb 70 b && ltb b 97) ≡ true → 16 ≡ either_digit b
unfolding either_digit digit_of
none_second b e =
    let h : 70 < b = ltb-true 70 b (both (ltb 70 b) (ltb b 97) e).0 in
    let k : b < 97 = ltb-true b 97 (both (ltb 70 b) (ltb b 97) e).1 in
    rw (lt-ltb b 97 k, le-ltb b 48 (omega arith), le-ltb b 58 (omega arith), le-ltb b 65 (omega arith), le-ltb b 71 h)

-- ---- a digit

decimal : (b : ℕ) → 48 ≤ b → b ≤ 57 → b % 16 + 9 * (b / 64) ≡ either_digit b
unfolding either_digit digit_of
decimal b h k = rw (lt-ltb b 97 (omega arith), le-ltb b 48 h, lt-ltb b 58 (omega arith)) (omega arith)

capital : (b : ℕ) → 65 ≤ b → b ≤ 70 → b % 16 + 9 * (b / 64) ≡ either_digit b
unfolding either_digit digit_of
capital b h k =
    rw (lt-ltb b 97 (omega arith), le-ltb b 48 (omega arith), le-ltb b 58 (omega arith), le-ltb b 65 h, lt-ltb b 71 (omega arith)) (omega arith)

small : (b : ℕ) → 97 ≤ b → b ≤ 102 → b % 16 + 9 * (b / 64) ≡ either_digit b
unfolding either_digit digit_of
small b h k =
    rw
    (le-ltb b 97 h, le-ltb (b - 32) 48 (omega arith), le-ltb (b - 32) 58 (omega arith), le-ltb (b - 32) 65 (omega arith), lt-ltb (b - 32) 71 (omega arith))
    (omega arith)

pub some_digit : (b : ℕ) → 48 ≤ b → (ltb 57 b && ltb b 65) ≡ false → (ltb 70 b && ltb b 97) ≡ false → b ≤ 102 → b % 16 + 9 * (b / 64) ≡ either_digit b
some_digit b low e f high = go (ltb 57 b) (ltb b 65) (ltb 70 b) (ltb b 97) refl refl refl refl e f
  where
    go : (t u v w : Bool) → ltb 57 b ≡ t → ltb b 65 ≡ u → ltb 70 b ≡ v → ltb b 97 ≡ w → (t && u) ≡ false → (v && w) ≡ false → b % 16 + 9 * (b / 64) ≡ either_digit b
    go false u v w p q r s e f = decimal b low (ltb-false 57 b p)
    go true true v w p q r s e f = impossible cc
    go true false false w p q r s e f = capital b (ltb-false b 65 q) (ltb-false 70 b r)
    go true false true true p q r s e f = impossible cc
    go true false true false p q r s e f = small b (ltb-false b 97 s) high
