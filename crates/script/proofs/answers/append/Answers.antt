-- What `buffer::put` leaves.
use Rattle.buffer.proofs.Appends.{put_wrote}
use Rattle.script.proofs.answers.append.Goals as goal

pub returns : goal.returns
returns c = search put_wrote
