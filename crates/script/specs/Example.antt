-- The bench program's input and whole output, in ASCII codes: document 01's example, a Set Baud Rate, and the edges of the text's form.
use Rattle.std.specs.Prelude.{ℕ, List, [], ◌∷◌}
use Rattle.text.specs.Lines.{newline}

pub record Rehearsal : Type 0 where
  pub input : List ℕ
  pub output : List ℕ

-- "Input lines: .. Whole output: .."
abbrev pub paper : Rehearsal
paper = record {
  input = 50 ∷ newline ∷ 65 ∷ 65 ∷ 32 ∷ 48 ∷ 48 ∷ 32 ∷ 50 ∷ 49 ∷ 32 ∷ 48 ∷ 49 ∷ 32 ∷ 70 ∷ 70 ∷ 32 ∷ 50 ∷ 49 ∷ newline ∷ 65 ∷ 65 ∷ 32 ∷ 48 ∷ 48 ∷ 32 ∷ 50 ∷ 49 ∷ 32 ∷ 48 ∷ 50 ∷ 32 ∷ 70 ∷ 70 ∷ 32 ∷ 50 ∷ 50 ∷ newline ∷ 65 ∷ 65 ∷ 32 ∷ 48 ∷ 50 ∷ 32 ∷ 50 ∷ 54 ∷ 32 ∷ 48 ∷ 53 ∷ 32 ∷ 48 ∷ 48 ∷ 32 ∷ 50 ∷ 68 ∷ newline ∷ 65 ∷ 65 ∷ 32 ∷ 48 ∷ 49 ∷ 32 ∷ 48 ∷ 69 ∷ 32 ∷ 49 ∷ 48 ∷ newline ∷ 65 ∷ 65 ∷ 32 ∷ 70 ∷ 70 ∷ 32 ∷ 48 ∷ 69 ∷ 32 ∷ 48 ∷ 68 ∷ newline ∷ [];
  output = 48 ∷ 48 ∷ 32 ∷ 48 ∷ 48 ∷ newline ∷ 48 ∷ 48 ∷ 32 ∷ 48 ∷ 48 ∷ newline ∷ 48 ∷ 48 ∷ 32 ∷ 48 ∷ 48 ∷ newline ∷ 48 ∷ 50 ∷ 32 ∷ 48 ∷ 50 ∷ newline ∷ 45 ∷ newline ∷ [];
}

-- document 02, request 7: a Set Baud Rate by individual address changes nothing; after one to the group of all, no later line is heard, as each is sent at 0x3F
abbrev pub paced : Rehearsal
paced = record {
  input = 49 ∷ newline ∷ 65 ∷ 65 ∷ 32 ∷ 48 ∷ 48 ∷ 32 ∷ 49 ∷ 65 ∷ 32 ∷ 48 ∷ 65 ∷ 32 ∷ 50 ∷ 52 ∷ newline ∷ 65 ∷ 65 ∷ 32 ∷ 70 ∷ 70 ∷ 32 ∷ 49 ∷ 65 ∷ 32 ∷ 48 ∷ 65 ∷ 32 ∷ 50 ∷ 51 ∷ newline ∷ 65 ∷ 65 ∷ 32 ∷ 48 ∷ 48 ∷ 32 ∷ 48 ∷ 69 ∷ 32 ∷ 48 ∷ 69 ∷ newline ∷ 65 ∷ 65 ∷ 32 ∷ 70 ∷ 70 ∷ 32 ∷ 49 ∷ 65 ∷ 32 ∷ 51 ∷ 70 ∷ 32 ∷ 53 ∷ 56 ∷ newline ∷ [];
  output = 48 ∷ 48 ∷ 32 ∷ 48 ∷ 48 ∷ newline ∷ 45 ∷ newline ∷ 45 ∷ newline ∷ 45 ∷ newline ∷ [];
}

abbrev pub edges : List Rehearsal
edges =
    -- no input at all
    record { input = []; output = 114 ∷ 101 ∷ 102 ∷ 117 ∷ 115 ∷ 101 ∷ 100 ∷ 32 ∷ 54 ∷ newline ∷ [] } ∷
    -- an empty first line
    record { input = newline ∷ []; output = 114 ∷ 101 ∷ 102 ∷ 117 ∷ 115 ∷ 101 ∷ 100 ∷ 32 ∷ 54 ∷ newline ∷ [] } ∷
    -- a leading zero
    record { input = 48 ∷ 50 ∷ newline ∷ []; output = 114 ∷ 101 ∷ 102 ∷ 117 ∷ 115 ∷ 101 ∷ 100 ∷ 32 ∷ 54 ∷ newline ∷ [] } ∷
    -- no nodes
    record { input = 48 ∷ newline ∷ []; output = 114 ∷ 101 ∷ 102 ∷ 117 ∷ 115 ∷ 101 ∷ 100 ∷ 32 ∷ 54 ∷ newline ∷ [] } ∷
    -- too many nodes
    record { input = 51 ∷ 50 ∷ newline ∷ []; output = 114 ∷ 101 ∷ 102 ∷ 117 ∷ 115 ∷ 101 ∷ 100 ∷ 32 ∷ 54 ∷ newline ∷ [] } ∷
    -- a carriage return behind the count
    record { input = 50 ∷ 13 ∷ newline ∷ []; output = 114 ∷ 101 ∷ 102 ∷ 117 ∷ 115 ∷ 101 ∷ 100 ∷ 32 ∷ 54 ∷ newline ∷ [] } ∷
    -- a count and nothing else, with and without its newline
    record { input = 50 ∷ newline ∷ []; output = [] } ∷
    record { input = 50 ∷ []; output = [] } ∷
    -- an empty line is an empty packet
    record { input = 50 ∷ newline ∷ newline ∷ []; output = 114 ∷ 101 ∷ 102 ∷ 117 ∷ 115 ∷ 101 ∷ 100 ∷ 32 ∷ 49 ∷ newline ∷ [] } ∷
    -- a last line without its newline
    record { input = 50 ∷ newline ∷ 65 ∷ 65 ∷ 32 ∷ 48 ∷ 48 ∷ 32 ∷ 48 ∷ 69 ∷ 32 ∷ 48 ∷ 69 ∷ []; output = 48 ∷ 48 ∷ 32 ∷ 48 ∷ 48 ∷ newline ∷ [] } ∷
    -- malformed lines (lower case, a space too many, a lone space, a lone digit), each by itself; the rehearsal goes on
    record { input = 50 ∷ newline ∷ 97 ∷ 97 ∷ newline ∷ 65 ∷ 65 ∷ 32 ∷ newline ∷ 32 ∷ 65 ∷ 65 ∷ newline ∷ 65 ∷ 65 ∷ 32 ∷ 32 ∷ 48 ∷ 48 ∷ newline ∷ 32 ∷ newline ∷ 65 ∷ newline ∷ 65 ∷ 65 ∷ 32 ∷ 48 ∷ 48 ∷ 32 ∷ 48 ∷ 69 ∷ 32 ∷ 48 ∷ 69 ∷ newline ∷ []; output = 114 ∷ 101 ∷ 102 ∷ 117 ∷ 115 ∷ 101 ∷ 100 ∷ 32 ∷ 54 ∷ newline ∷ 114 ∷ 101 ∷ 102 ∷ 117 ∷ 115 ∷ 101 ∷ 100 ∷ 32 ∷ 54 ∷ newline ∷ 114 ∷ 101 ∷ 102 ∷ 117 ∷ 115 ∷ 101 ∷ 100 ∷ 32 ∷ 54 ∷ newline ∷ 114 ∷ 101 ∷ 102 ∷ 117 ∷ 115 ∷ 101 ∷ 100 ∷ 32 ∷ 54 ∷ newline ∷ 114 ∷ 101 ∷ 102 ∷ 117 ∷ 115 ∷ 101 ∷ 100 ∷ 32 ∷ 54 ∷ newline ∷ 114 ∷ 101 ∷ 102 ∷ 117 ∷ 115 ∷ 101 ∷ 100 ∷ 32 ∷ 54 ∷ newline ∷ 48 ∷ 48 ∷ 32 ∷ 48 ∷ 48 ∷ newline ∷ [] } ∷
    -- left-over bytes, behind a right sum and behind a wrong one
    record { input = 50 ∷ newline ∷ 65 ∷ 65 ∷ 32 ∷ 48 ∷ 48 ∷ 32 ∷ 48 ∷ 69 ∷ 32 ∷ 48 ∷ 69 ∷ 32 ∷ 48 ∷ 48 ∷ newline ∷ 65 ∷ 65 ∷ 32 ∷ 48 ∷ 48 ∷ 32 ∷ 48 ∷ 69 ∷ 32 ∷ 48 ∷ 70 ∷ 32 ∷ 48 ∷ 48 ∷ newline ∷ []; output = 114 ∷ 101 ∷ 102 ∷ 117 ∷ 115 ∷ 101 ∷ 100 ∷ 32 ∷ 51 ∷ newline ∷ 114 ∷ 101 ∷ 102 ∷ 117 ∷ 115 ∷ 101 ∷ 100 ∷ 32 ∷ 51 ∷ newline ∷ [] } ∷
    -- 20 bytes: too long, or without header
    record { input = 50 ∷ newline ∷ 65 ∷ 65 ∷ 32 ∷ 48 ∷ 48 ∷ 32 ∷ 48 ∷ 48 ∷ 32 ∷ 48 ∷ 48 ∷ 32 ∷ 48 ∷ 48 ∷ 32 ∷ 48 ∷ 48 ∷ 32 ∷ 48 ∷ 48 ∷ 32 ∷ 48 ∷ 48 ∷ 32 ∷ 48 ∷ 48 ∷ 32 ∷ 48 ∷ 48 ∷ 32 ∷ 48 ∷ 48 ∷ 32 ∷ 48 ∷ 48 ∷ 32 ∷ 48 ∷ 48 ∷ 32 ∷ 48 ∷ 48 ∷ 32 ∷ 48 ∷ 48 ∷ 32 ∷ 48 ∷ 48 ∷ 32 ∷ 48 ∷ 48 ∷ 32 ∷ 48 ∷ 48 ∷ 32 ∷ 48 ∷ 48 ∷ 32 ∷ 48 ∷ 48 ∷ newline ∷ 65 ∷ 66 ∷ 32 ∷ 48 ∷ 48 ∷ 32 ∷ 48 ∷ 48 ∷ 32 ∷ 48 ∷ 48 ∷ 32 ∷ 48 ∷ 48 ∷ 32 ∷ 48 ∷ 48 ∷ 32 ∷ 48 ∷ 48 ∷ 32 ∷ 48 ∷ 48 ∷ 32 ∷ 48 ∷ 48 ∷ 32 ∷ 48 ∷ 48 ∷ 32 ∷ 48 ∷ 48 ∷ 32 ∷ 48 ∷ 48 ∷ 32 ∷ 48 ∷ 48 ∷ 32 ∷ 48 ∷ 48 ∷ 32 ∷ 48 ∷ 48 ∷ 32 ∷ 48 ∷ 48 ∷ 32 ∷ 48 ∷ 48 ∷ 32 ∷ 48 ∷ 48 ∷ 32 ∷ 48 ∷ 48 ∷ 32 ∷ 48 ∷ 48 ∷ newline ∷ []; output = 114 ∷ 101 ∷ 102 ∷ 117 ∷ 115 ∷ 101 ∷ 100 ∷ 32 ∷ 51 ∷ newline ∷ 114 ∷ 101 ∷ 102 ∷ 117 ∷ 115 ∷ 101 ∷ 100 ∷ 32 ∷ 50 ∷ newline ∷ [] } ∷
    []
