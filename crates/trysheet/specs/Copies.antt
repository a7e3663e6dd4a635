-- What a line of the program `trials` says in copies: "`room(3) times(2) len unit*len tail..`".
use Rattle.std.specs.Prelude.{ℕ, zero, suc, Bool, ◌&&◌, List, [], ◌++◌, length, take, drop, nat_le}
use Rattle.fields.specs.Field.{fields_byte, fields_word}
use Rattle.fields.specs.Lending.{most_triple_room, is_lending}

-- `times(2)`, behind the room
abbrev pub times_of : List ℕ → ℕ
times_of s = fields_word s 3

-- `len`
abbrev pub unit_length : List ℕ → ℕ
unit_length s = fields_byte s 5

-- `unit*len`
abbrev pub unit_of : List ℕ → List ℕ
unit_of s = take (unit_length s) (drop 6 s)

-- `tail..`
abbrev pub tail_of : List ℕ → List ℕ
tail_of s = drop (unit_length s) (drop 6 s)

-- so many copies of a unit
unfoldable pub copies_of : ℕ → List ℕ → List ℕ
copies_of zero u = []
copies_of (suc n) u = copies_of n u ++ u

-- "`times` copies of the unit and then the tail"
unfoldable pub copied_of : List ℕ → List ℕ
copied_of s = copies_of (times_of s) (unit_of s) ++ tail_of s

-- the line has a room, times and len, and as many bytes as len says; "More than .. bytes in all: `FF`"
unfoldable pub is_copied : List ℕ → ℕ → Bool
is_copied s most = is_lending s 6 most_triple_room && (nat_le (unit_length s) (length (drop 6 s)) && nat_le (length (copied_of s)) most)
