use Rattle.std.proofs.Common.{rules}
use Rattle.layout.specs.Settings.{read_gains}
use Rattle.layout.proofs.settings.read_gains.Goals as goal

pub returns : goal.returns
unfolding read_gains
returns c = search rules
