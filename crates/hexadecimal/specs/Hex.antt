-- Document 01: a line of bytes, "two-digit capitals, single spaces". "An empty line is an empty packet".
use Rattle.std.specs.Prelude.{ℕ, ◌+◌, ◌*◌, ◌/◌, ◌%◌, cond, List, [], ◌∷◌, ◌++◌, ltb, eqb, length, get_or, take, drop, Option, Some, None}
use Rattle.wire.specs.Promise.{Outcome}
use Rattle.wire.specs.Numbers.{done, number_of}
use Rattle.wire.specs.declared.refusal.Refusal.TheVariants.{Range}
use Rattle.text.specs.Lines.{newline}
use Rattle.hexadecimal.specs.Digits.{digit_of, character_of}
use Rattle.hexadecimal.specs.declared.pairs.Pair.{Pair}
use Rattle.hexadecimal.specs.declared.pairs.Pair.TheVariants.{Last, More}

abbrev pub space : ℕ
space = 32

-- ---- written

-- a byte as two digits
abbrev pub hex_pair : ℕ → List ℕ
hex_pair b = character_of (b / 16) ∷ character_of (b % 16) ∷ []

-- a space and two digits for each byte
unfoldable pub hex_rest : List ℕ → List ℕ
hex_rest [] = []
hex_rest (b ∷ bs) = space ∷ hex_pair b ++ hex_rest bs

-- two digits for each byte, single spaces between
abbrev pub hex_text : List ℕ → List ℕ
hex_text [] = []
hex_text (b ∷ bs) = hex_pair b ++ hex_rest bs

-- and the newline behind it
abbrev pub hex_line : List ℕ → List ℕ
hex_line d = hex_text d ++ (newline ∷ [])

-- ---- read

-- what a line says: some bytes, or nothing, since it isn't of its form
pub data Content : Type 0 where
  bytes : List ℕ → Content
  malformed : Content

-- two digits of these values, then the line's end or a space
unfoldable pub pair_by : ℕ → ℕ → List ℕ → Option Pair
pair_by high low s =
    cond (ltb 15 high) None
    (cond (ltb 15 low) None
    (cond (ltb (length s) 3) (Some (Last (high * 16 + low)))
    (cond (eqb (get_or s 2 0) space) (Some (More (high * 16 + low))) None)))

unfoldable pub read_pair : List ℕ → Option Pair
read_pair s = cond (ltb (length s) 2) None (pair_by (digit_of (get_or s 0 0)) (digit_of (get_or s 1 0)) s)

-- b in front of what the rest of the line says
abbrev pub before : ℕ → Content → Content
before b (bytes d) = bytes (b ∷ d)
before b malformed = malformed

abbrev pub on_pair : Option Pair → Content → Content
on_pair (Some (Last b)) more = bytes (b ∷ [])
on_pair (Some (More b)) more = before b more
on_pair None more = malformed

-- the bytes of a line that isn't empty
abbrev pub packet_in : List ℕ → Content
packet_in [] = malformed
packet_in (a ∷ []) = malformed
packet_in (a ∷ b ∷ []) = on_pair (read_pair (a ∷ b ∷ [])) malformed
packet_in (a ∷ b ∷ c ∷ s) = on_pair (read_pair (a ∷ b ∷ c ∷ s)) (packet_in s)

-- the bytes of a line; "An empty line is an empty packet"
abbrev pub bytes_in : List ℕ → Content
bytes_in [] = bytes []
bytes_in (a ∷ s) = packet_in (a ∷ s)

-- bytes at the start of a buffer, as many as it has room for; the rest stays
unfoldable pub over : List ℕ → List ℕ → List ℕ
over d out = take (length out) d ++ drop (length d) out

-- what reading a line answers and leaves: a malformed one leaves the buffer as it stood
abbrev pub read_bytes : Content → List ℕ → Outcome (Option ℕ) (List ℕ)
read_bytes (bytes d) out = record { answer = Some (length d); left = over d out }
read_bytes malformed out = record { answer = None; left = out }

-- the number of what reading finds: 6, "bench line not of its form"
abbrev pub parsed_number : Option ℕ → ℕ
parsed_number (Some n) = done
parsed_number None = number_of Range
