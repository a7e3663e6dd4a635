-- Behind the first capture.
use Rattle.tryrecording.proofs.Forms.{reply_behind}
use Rattle.tryrecording.proofs.form.reply_part.Goals as goal

pub returns : goal.returns
returns c = search reply_behind
