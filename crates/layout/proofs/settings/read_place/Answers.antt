use Rattle.std.proofs.Common.{rules}
use Rattle.layout.specs.Settings.{read_place}
use Rattle.layout.proofs.settings.read_place.Goals as goal

pub returns : goal.returns
unfolding read_place
returns c = search rules
