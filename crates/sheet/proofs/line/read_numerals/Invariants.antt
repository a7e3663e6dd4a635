-- The invariant: what the rest of the text lays, behind the bytes so far, is what the whole text lays.
use Prim.Native.Nat.{◌≤◌, ◌-◌}
use mathlib.Core.Path.{◌≡◌}
use lib.ListN.{length, drop}
use Rattle.hexadecimal.specs.Gathering.{read_pairs}
use Rattle.sheet.specs.Line.{numerals_of, numeral_bytes}
use Rattle.sheet.proofs.line.read_numerals.Given as goal

abbrev pub invariant-loop-b : goal.invariant-loop-b
invariant-loop-b l = (l.at ≤ length l.s) × ((l.count ≤ l.at) × ((length l.out ≡ length l.initial.out) × (read_pairs (numeral_bytes (numerals_of (drop l.at l.s))) l.count l.out ≡ read_pairs (numeral_bytes (numerals_of l.s)) 0 l.initial.out)))

abbrev pub decreases-loop-b : goal.decreases-loop-b
decreases-loop-b l = length l.s - l.at
