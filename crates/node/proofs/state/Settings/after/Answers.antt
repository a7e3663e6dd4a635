-- Part by part.
use Rattle.node.proofs.Acting.{all_after}
use Rattle.node.proofs.state.Settings.after.Goals as goal

pub returns : goal.returns
returns c = search all_after
