-- The line `50` of the program `trials`: "`n KIND*n CAPTURE CAPTURE`", the command line's first.
use Rattle.std.specs.Prelude.{ℕ, zero, suc, ◌+◌, ◌*◌, Bool, ◌&&◌, List, [], ◌∷◌, ◌++◌, leb, eqb, length, take, drop}
use Rattle.fields.specs.Field.{fields_byte, fields_word, fields_long}
use Rattle.fields.specs.Kind.{are_kinds}

-- "CAPTURE: `b(2) byte*b t(2) time(4)*t`", at the start of s: b
abbrev pub byte_count : List ℕ → ℕ
byte_count s = fields_word s 0

-- `byte*b`
abbrev pub byte_part : List ℕ → List ℕ
byte_part s = take (byte_count s) (drop 2 s)

-- `t(2) time(4)*t` and what follows
abbrev pub time_part : List ℕ → List ℕ
time_part s = drop (byte_count s) (drop 2 s)

-- t
abbrev pub time_count : List ℕ → ℕ
time_count s = fields_word (time_part s) 0

-- so many times, four bytes each
unfoldable pub times_from : ℕ → List ℕ → List ℕ
times_from zero s = []
times_from (suc n) s = times_from n s ++ (fields_long s (4 * n) ∷ [])

-- `time(4)*t`
abbrev pub times_in : List ℕ → List ℕ
times_in s = times_from (time_count s) (drop 2 (time_part s))

-- how many bytes the capture has
abbrev pub capture_length : List ℕ → ℕ
capture_length s = 4 + byte_count s + 4 * time_count s

-- "b and t at most 0400"
abbrev pub most_captured : ℕ
most_captured = 0x400

-- s starts with a capture, and has all of it
unfoldable pub is_capture : List ℕ → Bool
is_capture s = leb (byte_count s) most_captured && (leb (time_count s) most_captured && leb (capture_length s) (length s))

-- `KIND*n`
abbrev pub kind_part : List ℕ → List ℕ
kind_part s = take (fields_byte s 0) (drop 1 s)

-- the two captures behind the kinds, the second with what follows
unfoldable pub command_part : List ℕ → List ℕ
command_part s = drop (fields_byte s 0) (drop 1 s)

unfoldable pub reply_part : List ℕ → List ℕ
reply_part s = drop (capture_length (command_part s)) (command_part s)

-- two captures stand behind the kinds, and nothing behind them
unfoldable pub are_captures : List ℕ → Bool
are_captures s = is_capture (command_part s) && (is_capture (reply_part s) && eqb (length (reply_part s)) (capture_length (reply_part s)))

-- the line is n, so many kinds and two captures
unfoldable pub is_recording : List ℕ → Bool
is_recording s = are_kinds (kind_part s) && are_captures s
