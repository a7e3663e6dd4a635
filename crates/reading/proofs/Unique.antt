-- A second result that meets a contract is equal to the first.
use mathlib.Core.Path.{sym, ◌∙◌}
use Prim.Native.Nat.{ℕ}
use mir.Syntax.{w64}
use mir.Val.{Fits}
use Rattle.wire.proofs.OneResult.{OneResult}
use Rattle.reading.proofs.room.Reads as room

pub room_unique : (n : ℕ) (f : Fits w64 n) → OneResult (room.Post n f)
room_unique n f κs a r r' s s' p q = p.0 ∙ sym q.0
