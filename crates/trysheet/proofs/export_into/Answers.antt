-- What the call answers and leaves.
use Rattle.trysheet.proofs.Tries.{export_shown_lem}
use Rattle.trysheet.proofs.export_into.Goals as goal

pub returns : goal.returns
returns c = search export_shown_lem
