use Rattle.std.proofs.Common.{rules}
use Rattle.layout.specs.Nodes.{put_drive_bench}
use Rattle.layout.proofs.nodes.put_drive_bench.Goals as goal

pub returns : goal.returns
unfolding put_drive_bench
returns c = search rules
