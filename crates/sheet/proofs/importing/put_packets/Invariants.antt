-- The invariant: the packets of the lines that are left have room behind those written, and then all stand there.
use mathlib.Core.Path.{◌≡◌}
use lib.ListN.{length}
use Rattle.text.specs.Each.{lines_left}
use Rattle.sheet.specs.Sheet.{packets_in}
use Rattle.sheet.specs.Reading.{sheet_packets}
use Rattle.sheet.proofs.Laying.{Laying}
use Rattle.sheet.proofs.importing.put_packets.Given as goal

abbrev pub invariant-loop-line : goal.invariant-loop-line
invariant-loop-line l = (length l.out ≡ length l.initial.out)
    × (length l.bytes ≡ 17)
    × Laying (packets_in (lines_left l.line-iterator)) l.to l.out (sheet_packets l.fn.sheet l.initial.out)
