-- The position, then the stop byte before it.
use Rattle.codec.proofs.Filling.{stop_filled}
use Rattle.codec.proofs.building.stop_data.Goals as goal

pub returns : goal.returns
returns c = search stop_filled
