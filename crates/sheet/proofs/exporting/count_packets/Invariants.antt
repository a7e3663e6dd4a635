-- The invariant: the packets so far, and what those from here on come to, are what all of them come to.
use Prim.Native.Nat.{◌≤◌, ◌-◌}
use mathlib.Core.Path.{◌≡◌}
use lib.ListN.{length}
use Rattle.sheet.proofs.Exports.{coming}
use Rattle.sheet.proofs.exporting.count_packets.Given as goal

abbrev pub invariant-loop-at : goal.invariant-loop-at
invariant-loop-at l = (l.at ≤ length l.packets) × ((l.count ≤ l.at) × (coming l.count l.packets l.at ≡ coming 0 l.packets 0))

abbrev pub decreases-loop-at : goal.decreases-loop-at
decreases-loop-at l = length l.packets - l.at
