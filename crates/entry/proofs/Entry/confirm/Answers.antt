-- Each value is picked by its flag.
use Rattle.entry.proofs.Confirming.{blended}
use Rattle.entry.proofs.Entry.confirm.Goals as goal

pub returns : goal.returns
returns c = search blended
