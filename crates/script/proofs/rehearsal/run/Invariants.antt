-- The invariant: what the lines that are left give, behind what is written, is what all of them give.
use Prim.Native.Nat.{◌≤◌, ◌+◌, ◌*◌}
use mathlib.Core.Path.{◌≡◌}
use lib.ListN.{length}
use Rattle.text.specs.Lines.{lines_of}
use Rattle.text.specs.Each.{lines_left}
use Rattle.script.specs.Bench.{run_of}
use Rattle.buffer.proofs.Appends.{Going}
use Rattle.script.proofs.rehearsal.run.Given as goal

abbrev pub invariant-loop-line : goal.invariant-loop-line
invariant-loop-line l = (l.p + 64 * length (lines_left l.line-iterator) ≤ 64 * length l.fn.packets)
    × (length l.out ≡ length l.initial.out)
    × Going (run_of l.t (lines_left l.line-iterator)) l.p l.out (run_of l.initial.t (lines_of l.fn.packets)) l.initial.out
