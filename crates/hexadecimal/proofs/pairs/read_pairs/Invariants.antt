-- The invariant: what the rest of the line lays, behind the bytes so far, is what the whole line lays.
use Prim.Native.Nat.{◌≤◌, ◌-◌, ◌+◌}
use mathlib.Core.Path.{◌≡◌}
use lib.ListN.{length, drop}
use Rattle.hexadecimal.specs.Hex.{packet_in}
use Rattle.hexadecimal.specs.Gathering.{read_pairs}
use Rattle.hexadecimal.proofs.pairs.read_pairs.Given as goal

abbrev pub invariant-loop-b : goal.invariant-loop-b
invariant-loop-b l = (l.at ≤ length l.line) × ((l.count ≤ l.at) × ((length l.out ≡ length l.initial.out) × (read_pairs (packet_in (drop l.at l.line)) l.count l.out ≡ read_pairs (packet_in l.line) 0 l.initial.out)))

abbrev pub decreases-loop-b : goal.decreases-loop-b
decreases-loop-b l = (length l.line + 3) - l.at
