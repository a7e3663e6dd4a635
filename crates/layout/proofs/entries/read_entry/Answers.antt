use Rattle.std.proofs.Common.{rules}
use Rattle.layout.specs.Entries.{read_entry}
use Rattle.layout.proofs.entries.read_entry.Goals as goal

pub returns : goal.returns
unfolding read_entry
returns c = search rules
