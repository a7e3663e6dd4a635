use Rattle.std.proofs.Common.{rules}
use Rattle.layout.specs.Settings.{read_drive}
use Rattle.layout.proofs.settings.read_drive.Goals as goal

pub returns : goal.returns
unfolding read_drive
returns c = search rules
