use Rattle.std.proofs.Common.{rules}
use Rattle.layout.specs.Entries.{gate_known}
use Rattle.layout.proofs.entries.gate_known.Goals as goal

pub returns : goal.returns
unfolding gate_known
returns c = search rules
