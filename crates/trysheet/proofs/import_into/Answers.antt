-- What the call answers and leaves.
use Rattle.trysheet.proofs.Tries.{import_shown_lem}
use Rattle.trysheet.proofs.import_into.Goals as goal

pub returns : goal.returns
returns c = search import_shown_lem
