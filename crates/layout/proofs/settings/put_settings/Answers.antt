use Rattle.std.proofs.Common.{rules}
use Rattle.layout.specs.Settings.{put_settings}
use Rattle.layout.proofs.settings.put_settings.Goals as goal

pub returns-in-Gate : goal.returns-in-Gate
unfolding put_settings
returns-in-Gate c = search rules

pub returns-in-Drive : goal.returns-in-Drive
unfolding put_settings
returns-in-Drive c = search rules
