use Rattle.std.proofs.Common.{rules}
use Rattle.layout.specs.Settings.{put_gate}
use Rattle.layout.proofs.settings.put_gate.Goals as goal

pub returns : goal.returns
unfolding put_gate
returns c = search rules
