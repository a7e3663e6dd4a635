-- What comes before is put before.
use Rattle.codec.proofs.Filling.{byte_put}
use Rattle.codec.proofs.building.byte_then.Goals as goal

pub returns : goal.returns
returns c = search byte_put
