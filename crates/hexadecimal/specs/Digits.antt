-- Capital hexadecimal digits by their ASCII codes: 0 to 9 are 48 to 57, A to F are 65 to 70.
use Rattle.std.specs.Prelude.{ℕ, ◌+◌, ◌-◌, cond, ltb}

-- the value of a capital hexadecimal digit; 16 for all else
unfoldable pub digit_of : ℕ → ℕ
digit_of b = cond (ltb b 48) 16 (cond (ltb b 58) (b - 48) (cond (ltb b 65) 16 (cond (ltb b 71) (b - 55) 16)))

-- the capital hexadecimal digit of a value below 16
unfoldable pub character_of : ℕ → ℕ
character_of v = cond (ltb v 10) (48 + v) (55 + v)
