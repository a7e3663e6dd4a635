-- Over already, or by the line whose packet is next.
use Rattle.recording.proofs.Exits.{stays_over, goes_command, goes_reply, goes_end}
use Rattle.recording.proofs.advance.Goals as goal

pub returns-then-stage : goal.returns-then-stage
returns-then-stage c = search stays_over

pub returns-in_default : goal.returns-in_default
returns-in_default c = search goes_end

pub returns-in-Command : goal.returns-in-Command
returns-in-Command c = search goes_command

pub returns-in-Reply : goal.returns-in-Reply
returns-in-Reply c = search goes_reply
