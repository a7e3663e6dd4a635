-- Value by value.
use Rattle.codec.proofs.Looking.{gains_read}
use Rattle.codec.proofs.reading.gains_of.Goals as goal

pub returns : goal.returns
returns c = search gains_read
