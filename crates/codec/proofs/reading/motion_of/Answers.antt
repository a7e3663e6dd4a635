-- Value by value, each by its bit of the control byte.
use Rattle.codec.proofs.Looking.{motion_read}
use Rattle.codec.proofs.reading.motion_of.Goals as goal

pub returns : goal.returns
returns c = search motion_read
