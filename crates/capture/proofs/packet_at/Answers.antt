-- Each exit is one law: the part that `cut` hands back is the one of the line that is due.
use Rattle.capture.proofs.Parting.{part_command, part_reply, part_none}
use Rattle.capture.proofs.packet_at.Goals as goal

pub returns-in-Some-Command : goal.returns-in-Some-Command
returns-in-Some-Command c = search part_command

pub returns-in-Some-Reply : goal.returns-in-Some-Reply
returns-in-Some-Reply c = search part_reply

pub returns-in-None : goal.returns-in-None
returns-in-None c = search part_none
