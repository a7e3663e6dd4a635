-- Document 01: "The sum is the 8-bit sum, wrapping past 255".
use Rattle.std.specs.Prelude.{ℕ, ◌+◌, ◌-◌, ◌%◌, Bool, false, cond, List, [], ◌∷◌, ◌++◌, length, take, ◌==◌, nat_lt, slice_index}

-- the whole sum of some bytes
unfoldable pub total : List ℕ → ℕ
total [] = 0
total (x ∷ xs) = x + total xs

-- the 8-bit sum: the whole sum modulo 256
abbrev pub sum_of : List ℕ → ℕ
sum_of l = total l % 256

-- some bytes, and their sum behind them
abbrev pub with_sum : List ℕ → List ℕ
with_sum l = l ++ (sum_of l ∷ [])

-- the last byte is the sum of those before it
unfoldable pub ends_in_sum : List ℕ → Bool
ends_in_sum s = cond (nat_lt (length s) 1) false (sum_of (take (length s - 1) s) == slice_index s (length s - 1))
