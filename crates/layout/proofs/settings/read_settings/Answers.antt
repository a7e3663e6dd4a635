use Rattle.std.proofs.Common.{rules}
use Rattle.layout.specs.Settings.{read_settings}
use Rattle.layout.proofs.settings.read_settings.Goals as goal

pub returns-in-Gate : goal.returns-in-Gate
unfolding read_settings
returns-in-Gate c = search rules

pub returns-in-Drive : goal.returns-in-Drive
unfolding read_settings
returns-in-Drive c = search rules
