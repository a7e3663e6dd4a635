use Rattle.std.proofs.Common.{rules}
use Rattle.layout.specs.Settings.{read_motion}
use Rattle.layout.proofs.settings.read_motion.Goals as goal

pub returns : goal.returns
unfolding read_motion
returns c = search rules
