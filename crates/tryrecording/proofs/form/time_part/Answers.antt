-- The rest of what is behind b.
use Rattle.tryrecording.proofs.Forms.{times_behind}
use Rattle.tryrecording.proofs.form.time_part.Goals as goal

pub returns : goal.returns
returns c = search times_behind
