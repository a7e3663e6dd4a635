-- The chain answers, and its answer is written.
use Rattle.script.proofs.Playing.{send_done}
use Rattle.script.proofs.rehearsal.answer_step.Goals as goal

pub returns : goal.returns
returns c = search send_done
