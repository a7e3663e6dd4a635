-- Serves a private contract: what reading a line of bytes has gathered on the way.
use Rattle.std.specs.Prelude.{ℕ, ◌+◌, List, length, Option, Some, None}
use Rattle.std.proofs.lemmas.List.Edits.{sets}
use Rattle.hexadecimal.specs.Hex.{Content, bytes, malformed}

-- read on the way, with i bytes read before: of a malformed line only that it is one
pub data Gathered : Type 0 where
  whole : ℕ → List ℕ → Gathered
  none : Gathered

abbrev pub gathered : Option ℕ → List ℕ → Gathered
gathered (Some n) out = whole n out
gathered None out = none

abbrev pub read_pairs : Content → ℕ → List ℕ → Gathered
read_pairs (bytes d) i out = whole (i + length d) (sets out i d)
read_pairs malformed i out = none
