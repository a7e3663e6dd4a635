-- Each exit is one law.
use Rattle.capture.proofs.Parting.{step_command, step_reply, step_end}
use Rattle.capture.proofs.step.Goals as goal

pub returns-in_err-line : goal.returns-in_err-line
returns-in_err-line c = search (step_end, c.in_err-line.was)

pub returns-in-Command : goal.returns-in-Command
returns-in-Command c = search (step_command, c.in_ok-line.was)

pub returns-in-Reply : goal.returns-in-Reply
returns-in-Reply c = search (step_reply, c.in_ok-line.was)
