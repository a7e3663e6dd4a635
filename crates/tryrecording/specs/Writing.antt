-- What a function that writes into a lent buffer answers and leaves, whatever room it has.
use Rattle.std.specs.Prelude.{ℕ, ◌+◌, List, ◌≡◌, length}
use Rattle.std.proofs.lemmas.List.Edits.{sets}

-- d was written from `at` on, each of its bytes that has room: the position behind all of it, and what the buffer then holds
pub record WroteEach (d : List ℕ) (at : ℕ) (out : List ℕ) (r : ℕ) (left : List ℕ) : Type 0 where
  pub behind : r ≡ at + length d
  pub bytes : left ≡ sets out at d
