-- Serves the contracts of functions that write a part of a buffer. What a function that writes a part of a text or packet answers and leaves.
use Rattle.std.specs.Prelude.{◌≡◌, ℕ, ◌+◌, ◌≤◌, List, length}
use Rattle.std.proofs.lemmas.List.Edits.{sets}

-- d was written from `at` on, if it had room: the position behind it, and what the buffer then holds
pub record Wrote (d : List ℕ) (at : ℕ) (out : List ℕ) (r : ℕ) (left : List ℕ) : Type 0 where
  pub behind : r ≡ at + length d
  pub bytes : at + length d ≤ length out → left ≡ sets out at d
  pub long : length left ≡ length out
