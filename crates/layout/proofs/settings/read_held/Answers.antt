use Rattle.std.proofs.Common.{rules}
use Rattle.layout.specs.Settings.{read_held}
use Rattle.layout.proofs.settings.read_held.Goals as goal

pub returns : goal.returns
unfolding read_held
returns c = search rules
