-- What a line of the program `trials` lends: "A `room` of one byte is 00 to 40, a `room(2)` 0000 to 0200, a `room(3)` 000000 to 018000".
use Rattle.std.specs.Prelude.{ℕ, Bool, false, cond, List, ltb, leb, length, replicate}
use Rattle.fields.specs.Field.{fields_byte, fields_word, triple_of}

-- the most that a line may lend, by its room's one, two, three bytes
abbrev pub most_room : ℕ
most_room = 0x40

abbrev pub most_word_room : ℕ
most_word_room = 0x200

abbrev pub most_triple_room : ℕ
most_triple_room = 0x18000

-- "filled with 55 before the call"
unfoldable pub fields_filled : ℕ → List ℕ
fields_filled most = replicate most 0x55

-- the largest buffers that lines lend
abbrev pub filled_of : List ℕ
filled_of = fields_filled most_room

abbrev pub filled_word : List ℕ
filled_word = fields_filled most_word_room

abbrev pub filled_triple : List ℕ
filled_triple = fields_filled most_triple_room

-- a line begins with its room, which has as many bytes as the most has
unfoldable pub room_field : List ℕ → ℕ → ℕ
room_field s most = cond (ltb most 0x100) (fields_byte s 0) (cond (ltb most 0x10000) (fields_word s 0) (triple_of s 0))

-- the room that a line lends; none where it is above the most
abbrev pub room_of : List ℕ → ℕ → ℕ
room_of s most = cond (leb (room_field s most) most) (room_field s most) 0

-- a line has so many bytes, the first of them a room; "above it, `FF`"
abbrev pub is_lending : List ℕ → ℕ → ℕ → Bool
is_lending s least most = cond (ltb (length s) least) false (leb (room_field s most) most)
