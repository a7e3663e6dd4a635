-- What is taken from bytes is bytes.
use Rattle.std.proofs.Common.{ℕ, zero, suc, ◌<◌, List, [], ◌∷◌, get_or, take, drop, arith}
use Rattle.buffer.specs.Change.{AllBytes}

pub byte_at : (l : List ℕ) (i : ℕ) → AllBytes l → get_or l i 0 < 256
byte_at [] i h = omega arith
byte_at (x ∷ l) zero h = h.0
byte_at (x ∷ l) (suc i) h = byte_at l i h.1

pub take_bytes : (n : ℕ) (l : List ℕ) → AllBytes l → AllBytes (take n l)
take_bytes zero l h = tt
take_bytes (suc n) [] h = tt
take_bytes (suc n) (x ∷ l) h = (h.0, take_bytes n l h.1)

pub drop_bytes : (n : ℕ) (l : List ℕ) → AllBytes l → AllBytes (drop n l)
drop_bytes zero l h = h
drop_bytes (suc n) [] h = tt
drop_bytes (suc n) (x ∷ l) h = drop_bytes n l h.1
