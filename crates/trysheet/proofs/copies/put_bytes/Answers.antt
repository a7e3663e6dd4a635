-- They are put where they have room.
use Rattle.buffer.proofs.Appends.{put_wrote}
use Rattle.trysheet.proofs.copies.put_bytes.Goals as goal

pub returns : goal.returns
returns c = search put_wrote
