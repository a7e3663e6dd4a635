-- The invariant: the lines so far and the bytes of their packets, and what the lines that are left come to, are what all of them come to.
use Prim.Native.Nat.{◌≤◌, ◌+◌, ◌*◌}
use mathlib.Core.Path.{◌≡◌}
use lib.ListN.{length}
use Rattle.text.specs.Lines.{lines_of}
use Rattle.text.specs.Each.{lines_left}
use Rattle.sheet.specs.Sheet.{packets_in}
use Rattle.sheet.specs.Reading.{import_behind}
use Rattle.sheet.proofs.importing.import_answer.Given as goal

abbrev pub invariant-loop-line : goal.invariant-loop-line
invariant-loop-line l = (l.passed + length (lines_left l.line-iterator) ≤ length l.fn.sheet)
    × (l.total ≤ 19 * l.passed)
    × (length l.bytes ≡ 17)
    × (import_behind l.passed l.total l.room (packets_in (lines_left l.line-iterator)) ≡ import_behind 0 0 l.room (packets_in (lines_of l.fn.sheet)))
