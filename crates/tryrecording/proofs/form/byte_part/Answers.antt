-- The first of what is behind b.
use Rattle.tryrecording.proofs.Forms.{bytes_first}
use Rattle.tryrecording.proofs.form.byte_part.Goals as goal

pub returns : goal.returns
returns c = search bytes_first
