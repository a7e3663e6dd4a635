use Rattle.std.proofs.Common.{rules}
use Rattle.layout.specs.Entries.{gate_bits}
use Rattle.layout.proofs.entries.gate_bits.Goals as goal

pub returns-clause-value : goal.returns-clause-value
unfolding gate_bits
returns-clause-value c = search rules
