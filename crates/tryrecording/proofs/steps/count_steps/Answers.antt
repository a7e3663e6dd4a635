-- Five bytes for each.
use Rattle.tryrecording.proofs.Walks.{steps_count}
use Rattle.tryrecording.proofs.steps.count_steps.Goals as goal

pub returns : goal.returns
returns c = search steps_count
