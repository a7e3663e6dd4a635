use Rattle.std.proofs.Common.{rules}
use Rattle.layout.specs.Nodes.{put_captured}
use Rattle.layout.proofs.nodes.put_captured.Goals as goal

pub returns : goal.returns
unfolding put_captured
returns c = search rules
