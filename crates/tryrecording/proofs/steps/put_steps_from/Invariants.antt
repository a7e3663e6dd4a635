-- The invariant: the steps from the stage on are still to be written, and have small positions.
use mathlib.Core.Bool.{false}
use mathlib.Core.Path.{◌≡◌}
use lib.ListN.{length}
use Rattle.capture.specs.Steps.{bytes_left}
use Rattle.tryrecording.specs.Trying.{joined_steps}
use Rattle.tryrecording.specs.Moves.{steps_from, Small}
use Rattle.tryrecording.proofs.Writes.{Still}
use Rattle.tryrecording.proofs.steps.put_steps_from.Given as goal

abbrev pub invariant-loop-next : goal.invariant-loop-next
invariant-loop-next l = (l.stage.over ≡ false) × Small l.taken.command.times.now l.taken.reply.times.now l.stage.at l.at × (length l.out ≡ length l.initial.out) × Still (joined_steps (steps_from l.taken.command.bytes.now l.taken.command.times.now l.taken.reply.bytes.now l.taken.reply.times.now l.stage)) l.at l.out (joined_steps (steps_from l.taken.command.bytes.now l.taken.command.times.now l.taken.reply.bytes.now l.taken.reply.times.now l.initial.stage)) l.from l.initial.out

abbrev pub decreases-loop-next : goal.decreases-loop-next
decreases-loop-next l = bytes_left l.taken.command.times.now l.taken.reply.times.now l.stage.at
