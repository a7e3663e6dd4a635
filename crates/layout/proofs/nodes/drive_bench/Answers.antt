use Rattle.std.proofs.Common.{rules}
use Rattle.layout.specs.Nodes.{drive_bench}
use Rattle.layout.proofs.nodes.drive_bench.Goals as goal

pub returns : goal.returns
unfolding drive_bench
returns c = search rules
