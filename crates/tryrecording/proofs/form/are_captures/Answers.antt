-- By the tests, in order.
use Rattle.tryrecording.proofs.Forms.{no_command, no_reply, nothing_behind}
use Rattle.tryrecording.proofs.form.are_captures.Goals as goal

pub returns-then-not-is_capture : goal.returns-then-not-is_capture
returns-then-not-is_capture c = search no_command

pub returns-then-not-is_capture-2 : goal.returns-then-not-is_capture-2
returns-then-not-is_capture-2 c = search no_reply

pub returns : goal.returns
returns c = search nothing_behind
