-- Four bytes.
use Rattle.tryrecording.proofs.Shows.{head_put}
use Rattle.tryrecording.proofs.put_head_bytes.Goals as goal

pub returns : goal.returns
returns c = search head_put
