use Rattle.std.proofs.Common.{rules}
use Rattle.layout.specs.Nodes.{put_shown}
use Rattle.layout.proofs.nodes.put_shown.Goals as goal

pub returns-in-Gate : goal.returns-in-Gate
unfolding put_shown
returns-in-Gate c = search rules

pub returns-in-Drive : goal.returns-in-Drive
unfolding put_shown
returns-in-Drive c = search rules
