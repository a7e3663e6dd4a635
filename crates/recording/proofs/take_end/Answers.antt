-- The silence at the end.
use Rattle.recording.proofs.Exits.{took_end}
use Rattle.recording.proofs.take_end.Goals as goal

pub returns : goal.returns
returns c = search took_end
