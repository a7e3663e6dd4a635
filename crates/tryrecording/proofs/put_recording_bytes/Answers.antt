-- The kinds of the line.
use Rattle.tryrecording.proofs.Tries.{shows_recording}
use Rattle.tryrecording.proofs.put_recording_bytes.Goals as goal

pub returns : goal.returns
returns c = search shows_recording
