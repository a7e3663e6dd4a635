-- Five bytes.
use Rattle.tryrecording.proofs.Shows.{step_put}
use Rattle.tryrecording.proofs.steps.put_step_bytes.Goals as goal

pub returns : goal.returns
returns c = search step_put
