-- The rest of what is behind n.
use Rattle.tryrecording.proofs.Forms.{command_behind}
use Rattle.tryrecording.proofs.form.command_part.Goals as goal

pub returns : goal.returns
returns c = search command_behind
