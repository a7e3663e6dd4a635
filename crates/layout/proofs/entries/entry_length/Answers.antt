use Rattle.std.proofs.Common.{rules}
use Rattle.layout.specs.Entries.{entry_length}
use Rattle.layout.proofs.entries.entry_length.Goals as goal

pub returns-in-Gate-clause-value : goal.returns-in-Gate-clause-value
unfolding entry_length
returns-in-Gate-clause-value c = search rules

pub returns-in-Drive-clause-value : goal.returns-in-Drive-clause-value
unfolding entry_length
returns-in-Drive-clause-value c = search rules
