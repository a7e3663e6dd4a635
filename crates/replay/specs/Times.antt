-- RECORDINGS.md, "The text of a recording": a time "in decimal, 0 to 4294967295, without a leading zero".
use Rattle.std.specs.Prelude.{ℕ, ◌+◌, ◌*◌, cond, List, [], ◌∷◌, ltb, eqb, length, get_or, Option, Some, None}
use Rattle.text.specs.Digits.{value_of}

-- the time of a number that goes on with a digit of this value, by what it is with it
abbrev pub digit_on : ℕ → Option ℕ → (ℕ → Option ℕ) → Option ℕ
digit_on v (Some d) on = cond (ltb 4294967295 (v * 10 + d)) None (on (v * 10 + d))
digit_on v None on = None

-- the time that further digits make of the number that those before them are
abbrev pub read_digits : ℕ → List ℕ → Option ℕ
read_digits v [] = Some v
read_digits v (b ∷ bs) = digit_on v (value_of b) (λ n. read_digits n bs)

-- the time that some text is: one digit, or several of which the first isn't 0
unfoldable pub read_time : List ℕ → Option ℕ
read_time s =
    cond (ltb (length s) 1) None
    (cond (ltb (length s) 2) (read_digits 0 s) (cond (eqb (get_or s 0 0) 48) None (read_digits 0 s)))
