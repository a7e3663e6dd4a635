-- As reporting silence has it.
use Rattle.recording.proofs.Exits.{quieted}
use Rattle.recording.proofs.quiet.Goals as goal

pub returns : goal.returns
returns c = search quieted
