-- A part of a lent slice of bytes that is handed back: where it lies, and what it holds.
use Rattle.std.specs.Prelude.{ℕ, ◌+◌, min, List, ◌≡◌, length}
use Rattle.std.specs.Borrow.{Bor}

-- r is the part of the slice s that starts at its byte `from`, counted from 0, or at its end where it has none, and holds `bytes`: in the block of s, so many bytes further on
pub record Part (s : Bor (List ℕ)) (from : ℕ) (bytes : List ℕ) (r : Bor (List ℕ)) : Type 0 where
  pub block : r.ref_ptr.0 ≡ s.ref_ptr.0
  pub offset : r.ref_ptr.1 ≡ min from (length s.now) + s.ref_ptr.1
  pub holds : r.now ≡ bytes
