-- The fields of a line of the program `trials`: "wide values least significant byte first".
use Rattle.std.specs.Prelude.{ℕ, ◌+◌, ◌*◌, List, get_or, drop}

-- the byte at a position; 0 past the end
abbrev pub fields_byte : List ℕ → ℕ → ℕ
fields_byte s at = get_or s at 0

-- two bytes from a position on
abbrev pub fields_word : List ℕ → ℕ → ℕ
fields_word s at = get_or (drop at s) 0 0 + get_or (drop at s) 1 0 * 256

-- three bytes
abbrev pub triple_of : List ℕ → ℕ → ℕ
triple_of s at = fields_word (drop at s) 0 + get_or (drop at s) 2 0 * 65536

-- four bytes
abbrev pub fields_long : List ℕ → ℕ → ℕ
fields_long s at = fields_word (drop at s) 0 + fields_word (drop at s) 2 * 65536
