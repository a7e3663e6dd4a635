-- The invariant: the lines of the packets from here on have room behind those written, and then all stand there.
use Prim.Native.Nat.{◌≤◌, ◌-◌}
use mathlib.Core.Path.{◌≡◌}
use lib.ListN.{length, drop}
use Rattle.sheet.specs.Packets.{packets_of, sheet_of}
use Rattle.sheet.specs.Reading.{sheet_lines}
use Rattle.sheet.proofs.Laying.{Laying}
use Rattle.sheet.proofs.exporting.put_lines.Given as goal

abbrev pub invariant-loop-at : goal.invariant-loop-at
invariant-loop-at l = (l.at ≤ length l.packets) × ((length l.out ≡ length l.initial.out) × Laying (sheet_of (packets_of (drop l.at l.packets))) l.to l.out (sheet_lines l.packets l.initial.out))

abbrev pub decreases-loop-at : goal.decreases-loop-at
decreases-loop-at l = length l.packets - l.at
