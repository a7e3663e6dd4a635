use Rattle.std.proofs.Common.{rules}
use Rattle.layout.specs.Settings.{put_gains}
use Rattle.layout.proofs.settings.put_gains.Goals as goal

pub returns : goal.returns
unfolding put_gains
returns c = search rules
