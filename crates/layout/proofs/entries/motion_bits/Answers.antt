use Rattle.std.proofs.Common.{rules}
use Rattle.layout.specs.Entries.{motion_bits}
use Rattle.layout.proofs.entries.motion_bits.Goals as goal

pub returns-clause-value : goal.returns-clause-value
unfolding motion_bits
returns-clause-value c = search rules
