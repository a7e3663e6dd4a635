use Rattle.std.proofs.Common.{rules}
use Rattle.layout.specs.Entries.{drive_bits}
use Rattle.layout.proofs.entries.drive_bits.Goals as goal

pub returns-clause-value : goal.returns-clause-value
unfolding drive_bits
returns-clause-value c = search rules
