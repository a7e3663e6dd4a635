-- The bytes that a line of the program `trials` is answered: those put so far, in their order; "what is put past their room is not written".
use Rattle.std.specs.Prelude.{ℕ, ◌+◌, ◌/◌, ◌%◌, Bool, cond, List, ◌∷◌, [], ltb, replicate, set}
use Rattle.fields.specs.declared.answer.Answer.{Answer}

-- the room of an answer: number, length, 64 bytes of a lent buffer, 33 node records of 65 bytes
abbrev pub most_bytes : ℕ
most_bytes = 2211

-- no bytes yet
unfoldable pub fields_nothing : Answer
fields_nothing = record { bytes = replicate most_bytes 0; length = 0 }

-- one byte more
unfoldable pub answer_put : Answer → ℕ → Answer
answer_put a b = cond (ltb a.length most_bytes) (record { bytes = set a.bytes a.length b; length = a.length + 1 }) a

-- a flag more: 00 or 01
abbrev pub answer_put_flag : Answer → Bool → Answer
answer_put_flag a f = answer_put a (cond f 1 0)

-- "wide values least significant byte first": two bytes more
abbrev pub answer_put_word : Answer → ℕ → Answer
answer_put_word a w = answer_put (answer_put a (w % 256)) (w / 256)

-- three bytes more; of a larger number its lowest three
abbrev pub answer_put_triple : Answer → ℕ → Answer
answer_put_triple a t = answer_put (answer_put_word a (t % 65536)) (t / 65536 % 256)

-- four bytes more
abbrev pub answer_put_long : Answer → ℕ → Answer
answer_put_long a l = answer_put_word (answer_put_word a (l % 65536)) (l / 65536)

-- these bytes more
unfoldable pub answer_put_all : Answer → List ℕ → Answer
answer_put_all a [] = a
answer_put_all a (b ∷ s) = answer_put_all (answer_put a b) s

-- "A line that is not of its form .. answers `FF`"
abbrev pub malformed_of : Answer
malformed_of = answer_put fields_nothing 0xFF

-- `NN bytes..`
abbrev pub numbered_of : ℕ → List ℕ → Answer
numbered_of n s = answer_put_all (answer_put fields_nothing n) s

-- `NN value(2) bytes..`
abbrev pub valued_of : ℕ → ℕ → List ℕ → Answer
valued_of n v s = answer_put_all (answer_put_word (answer_put fields_nothing n) (v % 65536)) s
