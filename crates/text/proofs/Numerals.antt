-- A decimal number, as the code finds it.
use Prim.Native.Nat.{ℕ, ◌-◌, ◌≤◌, ◌<◌}
use Rattle.std.specs.Prelude.{Option, Some, None, ℕ}
use mathlib.Core.Bool.{Bool, true, false, cond}
use mathlib.Core.List.{List}
use mathlib.Core.Path.{◌≡◌, refl}
use native.Mathlib.Omega.{arith}
use lib.Dec.{ltb}
use lib.ListN.{length, get_or}
use borrow.Author.Tests.{eq-eqb, ne_eqb, ltb-true}
use Rattle.wire.proofs.Impossible.{impossible}
use Rattle.wire.specs.Promise.{Promise, promised}
use Rattle.text.specs.Digits.{value_of, two_digits, read_decimal, decimal_number}

pub value_small : (b v : ℕ) → value_of b ≡ Some v → v ≤ 9
unfolding value_of
value_small b v e = go (ltb b 48) (ltb b 58) refl refl e
  where
    go : (t u : Bool) → ltb b 48 ≡ t → ltb b 58 ≡ u → cond t None (cond u (Some (b - 48)) None) ≡ Some v → v ≤ 9
    go true u x y e = impossible cc
    go false true x y e =
        let z : v ≡ b - 48 = cc in
        let k : b < 58 = ltb-true b 58 y in
        omega arith
    go false false x y e = impossible cc

module _ (s : List ℕ) (r : Option ℕ) where
  pub decimal_one : length s ≡ 1 → r ≡ value_of (get_or s 0 0) → Promise decimal_number r (read_decimal s)
  unfolding read_decimal
  decimal_one e g = promised (rw (eq-eqb (length s) 1 e) g)

  pub decimal_two : (length s ≡ 1 → ⊥) → length s ≡ 2 → r ≡ two_digits (value_of (get_or s 0 0)) (value_of (get_or s 1 0)) → Promise decimal_number r (read_decimal s)
  unfolding read_decimal
  decimal_two n e g = promised (rw (ne_eqb (length s) 1 n, eq-eqb (length s) 2 e) g)

pub decimal_not : (s : List ℕ) → (length s ≡ 1 → ⊥) → (length s ≡ 2 → ⊥) → Promise decimal_number None (read_decimal s)
unfolding read_decimal
decimal_not s n k = promised (rw (ne_eqb (length s) 1 n, ne_eqb (length s) 2 k))
