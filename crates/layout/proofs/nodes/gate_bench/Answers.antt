use Rattle.std.proofs.Common.{rules}
use Rattle.layout.specs.Nodes.{gate_bench}
use Rattle.layout.proofs.nodes.gate_bench.Goals as goal

pub returns : goal.returns
unfolding gate_bench
returns c = search rules
