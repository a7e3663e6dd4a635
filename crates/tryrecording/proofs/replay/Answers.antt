-- By whether the line is of the form.
use Rattle.tryrecording.proofs.Tries.{is_true, replays, replays_not}
use Rattle.tryrecording.proofs.replay.Goals as goal

pub put_recording_bytes-requires : goal.put_recording_bytes-requires
put_recording_bytes-requires c = search is_true

pub returns-then-is_recording : goal.returns-then-is_recording
returns-then-is_recording c = search replays

pub returns : goal.returns
returns c = search replays_not
