-- "wide values go least significant byte first".
use Rattle.std.specs.Prelude.{ℕ, ◌+◌, ◌*◌}

-- the number of two bytes
abbrev pub word_of : ℕ → ℕ → ℕ
word_of low high = low + high * 256

-- and of four
abbrev pub long_of : ℕ → ℕ → ℕ → ℕ → ℕ
long_of a b c d = a + b * 256 + c * 65536 + d * 16777216
