-- Room for what is read, or for what is to be written.
use Rattle.std.specs.Prelude.{ℕ, List, replicate}

-- so many bytes, each 0
unfoldable pub reading_room : ℕ → List ℕ
reading_room n = replicate n 0
