-- Document 02, request 1: a line of a movement sheet, "`HEX 01 13 04`: no header, no sum".
use Rattle.std.specs.Prelude.{ℕ, ◌+◌, ◌-◌, ◌*◌, ◌/◌, Bool, false, not, cond, List, [], ◌∷◌, ltb, eqb, length, get_or, drop}
use Rattle.text.specs.Lines.{grown}
use Rattle.hexadecimal.specs.Digits.{digit_of}
use Rattle.hexadecimal.specs.Hex.{space, Content, bytes, malformed, before}

-- the word `HEX`, and the space behind it
abbrev pub hex_word : List ℕ
hex_word = 72 ∷ 69 ∷ 88 ∷ space ∷ []

-- a line begins so
unfoldable pub starts_hex : List ℕ → Bool
starts_hex l =
    cond (ltb (length l) 4) false
    (cond (not (eqb (get_or l 0 0) 72)) false
    (cond (not (eqb (get_or l 1 0) 69)) false
    (cond (not (eqb (get_or l 2 0) 88)) false
    (eqb (get_or l 3 0) space))))

-- the value of a hex digit, "either case": a small letter counts as its capital; 16 for all else
unfoldable pub either_digit : ℕ → ℕ
either_digit b = cond (ltb b 97) (digit_of b) (digit_of (b - 32))

-- "One or two hex digits are read": the byte that they say; 256 for all else
abbrev pub one_digit_byte : ℕ → ℕ
one_digit_byte v = cond (ltb v 16) v 256

abbrev pub two_digit_byte : ℕ → ℕ → ℕ
two_digit_byte v w = cond (ltb v 16) (cond (ltb w 16) (v * 16 + w) 256) 256

abbrev pub byte_in : List ℕ → ℕ
byte_in [] = 256
byte_in (a ∷ []) = one_digit_byte (either_digit a)
byte_in (a ∷ b ∷ []) = two_digit_byte (either_digit a) (either_digit b)
byte_in (a ∷ b ∷ c ∷ s) = 256

-- "single spaces": what stands between them
abbrev pub numerals_of : List ℕ → List (List ℕ)
numerals_of [] = [] ∷ []
numerals_of (b ∷ s) = cond (eqb b space) ([] ∷ numerals_of s) (grown b (numerals_of s))

-- the bytes that these say
abbrev pub numeral_bytes : List (List ℕ) → Content
numeral_bytes [] = bytes []
numeral_bytes (w ∷ ws) = cond (ltb (byte_in w) 256) (before (byte_in w) (numeral_bytes ws)) malformed

-- "The data bytes number what the command byte says": address, command byte, and so many
abbrev pub right_count : Content → Content
right_count (bytes d) = cond (eqb (length d) (2 + get_or d 1 0 / 16)) (bytes d) malformed
right_count malformed = malformed

-- what a line says: address, command byte and data bytes; or nothing, since it isn't "of this form or count"
unfoldable pub line_in : List ℕ → Content
line_in l = cond (starts_hex l) (right_count (numeral_bytes (numerals_of (drop 4 l)))) malformed
