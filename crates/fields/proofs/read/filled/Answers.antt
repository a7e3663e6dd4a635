use Rattle.std.proofs.Common.{refl}
use Rattle.fields.specs.Lending.{fields_filled}
use Rattle.fields.proofs.read.filled.Goals as goal

pub returns : goal.returns
unfolding fields_filled
returns g c = refl
