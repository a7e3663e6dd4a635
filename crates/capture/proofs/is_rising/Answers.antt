-- As the library has it.
use Rattle.capture.proofs.Rising.{sorted_rises}
use Rattle.capture.proofs.is_rising.Goals as goal

pub returns : goal.returns
returns c = search sorted_rises
