use Rattle.std.proofs.Common.{rules}
use Rattle.layout.specs.Settings.{put_motion}
use Rattle.layout.proofs.settings.put_motion.Goals as goal

pub returns : goal.returns
unfolding put_motion
returns c = search rules
