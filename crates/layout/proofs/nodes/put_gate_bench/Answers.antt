use Rattle.std.proofs.Common.{rules}
use Rattle.layout.specs.Nodes.{put_gate_bench}
use Rattle.layout.proofs.nodes.put_gate_bench.Goals as goal

pub returns : goal.returns
unfolding put_gate_bench
returns c = search rules
