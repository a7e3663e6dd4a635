-- The invariant: the number so far and the digits from here on make the time.
use Prim.Native.Nat.{◌≤◌}
use mathlib.Core.Path.{◌≡◌}
use lib.ListN.{drop}
use Rattle.replay.specs.Times.{read_digits}
use Rattle.replay.proofs.runs.read_digits.Given as goal

abbrev pub invariant-loop-b : goal.invariant-loop-b
invariant-loop-b l = (l.number ≤ 4294967295) × (read_digits l.number (drop l.b-index l.s) ≡ read_digits 0 l.s)
