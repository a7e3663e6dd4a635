use Rattle.std.proofs.Common.{rules}
use Rattle.layout.specs.Entries.{shared_bits}
use Rattle.layout.proofs.entries.shared_bits.Goals as goal

pub returns-clause-value : goal.returns-clause-value
unfolding shared_bits
returns-clause-value c = search rules
