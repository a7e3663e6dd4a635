-- As power-up has it.
use Rattle.recording.proofs.Exits.{powered}
use Rattle.recording.proofs.power.Goals as goal

pub returns : goal.returns
returns c = search powered
