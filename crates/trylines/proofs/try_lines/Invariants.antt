-- The invariant: what the lines that are left make of the session is what all of them make of a fresh one.
use mathlib.Core.Path.{◌≡◌}
use Rattle.text.specs.Lines.{lines_of}
use Rattle.text.specs.Each.{lines_left}
use Rattle.trylines.specs.Trying.{try_lines}
use Rattle.trylines.proofs.try_lines.Given as goal

abbrev pub invariant-loop-line : goal.invariant-loop-line
invariant-loop-line g l = try_lines l.s (lines_left l.line-iterator) ≡ try_lines l.initial.s (lines_of l.fn.input)
