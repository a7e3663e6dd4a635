-- What comes before is put before.
use Rattle.codec.proofs.Filling.{long_put}
use Rattle.codec.proofs.building.long_then.Goals as goal

pub returns-then-brought : goal.returns-then-brought
returns-then-brought c = search long_put
