use Rattle.std.proofs.Common.{rules}
use Rattle.layout.specs.Settings.{put_held}
use Rattle.layout.proofs.settings.put_held.Goals as goal

pub returns : goal.returns
unfolding put_held
returns c = search rules
