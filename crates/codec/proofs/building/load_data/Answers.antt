-- Value by value, from the last to the control byte.
use Rattle.codec.proofs.Filling.{load_filled}
use Rattle.codec.proofs.building.load_data.Goals as goal

pub returns : goal.returns
returns c = search load_filled
