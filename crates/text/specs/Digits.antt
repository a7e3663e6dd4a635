-- Decimal numbers of one or two digits: 0 to 9 are the ASCII codes 48 to 57.
use Rattle.std.specs.Prelude.{ℕ, ◌+◌, ◌-◌, ◌*◌, ◌/◌, ◌%◌, cond, List, [], ◌∷◌, ltb, eqb, length, get_or, Option, Some, None}
use Rattle.wire.specs.Numbers.{done, number_of}
use Rattle.wire.specs.declared.refusal.Refusal.TheVariants.{Range}

-- the value of a decimal digit, if it is one
unfoldable pub value_of : ℕ → Option ℕ
value_of b = cond (ltb b 48) None (cond (ltb b 58) (Some (b - 48)) None)

-- a number below 100 in decimal
unfoldable pub decimal_of : ℕ → List ℕ
decimal_of n = cond (ltb n 10) ((48 + n) ∷ []) ((48 + n / 10) ∷ (48 + n % 10) ∷ [])

-- two digits of these values, "without a leading zero"
abbrev pub two_digits : Option ℕ → Option ℕ → Option ℕ
two_digits (Some a) (Some b) = cond (ltb a 1) None (Some (a * 10 + b))
two_digits (Some a) None = None
two_digits None b = None

-- the decimal number that some text is
unfoldable pub read_decimal : List ℕ → Option ℕ
read_decimal s =
    cond (eqb (length s) 1) (value_of (get_or s 0 0))
    (cond (eqb (length s) 2) (two_digits (value_of (get_or s 0 0)) (value_of (get_or s 1 0))) None)

-- the number of what reading finds: 6, "bench line not of its form"
abbrev pub decimal_number : Option ℕ → ℕ
decimal_number (Some n) = done
decimal_number None = number_of Range
