-- The invariant: the walk from here on is the walk from the start; the measure: the bytes that are left.
use Rattle.capture.specs.Steps.{bytes_left}
use Rattle.recording.proofs.Stepping.{Going}
use Rattle.recording.proofs.follow.Given as goal

abbrev pub invariant-loop-stage : goal.invariant-loop-stage
invariant-loop-stage l = Going l.taken.command.bytes.now l.taken.command.times.now l.taken.reply.bytes.now l.taken.reply.times.now l.initial.stage.session l.stage

abbrev pub decreases-loop-stage : goal.decreases-loop-stage
decreases-loop-stage l = bytes_left l.taken.command.times.now l.taken.reply.times.now l.stage.at
