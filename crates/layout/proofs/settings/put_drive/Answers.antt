use Rattle.std.proofs.Common.{rules}
use Rattle.layout.specs.Settings.{put_drive}
use Rattle.layout.proofs.settings.put_drive.Goals as goal

pub returns : goal.returns
unfolding put_drive
returns c = search rules
