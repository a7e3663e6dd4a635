-- The first of what is behind n.
use Rattle.tryrecording.proofs.Forms.{kinds_first}
use Rattle.tryrecording.proofs.form.kind_part.Goals as goal

pub returns : goal.returns
returns c = search kinds_first
