-- The invariant: from here on the walk comes to what it comes to from the first stage on; the measure: the bytes that are left.
use Rattle.capture.specs.Steps.{bytes_left}
use Rattle.replay.proofs.Onward.{Onward}
use Rattle.replay.proofs.packets.replay.Given as goal

abbrev pub invariant-loop-next : goal.invariant-loop-next
invariant-loop-next g l = Onward l.taken.command.bytes.now l.taken.command.times.now l.taken.reply.bytes.now l.taken.reply.times.now l.initial.stage l.stage

abbrev pub decreases-loop-next : goal.decreases-loop-next
decreases-loop-next g l = bytes_left l.taken.command.times.now l.taken.reply.times.now l.stage.at
