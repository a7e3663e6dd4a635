use Rattle.std.proofs.Common.{rules}
use Rattle.layout.specs.Nodes.{read_captured}
use Rattle.layout.proofs.nodes.read_captured.Goals as goal

pub returns : goal.returns
unfolding read_captured
returns c = search rules
