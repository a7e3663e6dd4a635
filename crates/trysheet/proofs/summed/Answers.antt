-- Part by part.
use Rattle.trysheet.proofs.Tries.{summed_put}
use Rattle.trysheet.proofs.summed.Goals as goal

pub returns : goal.returns
returns c = search summed_put
