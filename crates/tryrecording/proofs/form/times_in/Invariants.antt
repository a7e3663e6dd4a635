-- The invariant: so many times are read.
use mathlib.Core.Path.{◌≡◌}
use lib.ListN.{length, take}
use Rattle.tryrecording.specs.Form.{most_captured, times_from}
use Rattle.tryrecording.proofs.form.times_in.Given as goal

abbrev pub invariant-loop-i : goal.invariant-loop-i
invariant-loop-i l = (length l.times ≡ most_captured) × (take l.i l.times ≡ times_from l.i l.from)
