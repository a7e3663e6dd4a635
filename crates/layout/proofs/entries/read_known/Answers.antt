use Rattle.std.proofs.Common.{rules}
use Rattle.layout.specs.Entries.{read_known}
use Rattle.layout.proofs.entries.read_known.Goals as goal

pub returns-in-Gate : goal.returns-in-Gate
unfolding read_known
returns-in-Gate c = search rules

pub returns-in-Drive : goal.returns-in-Drive
unfolding read_known
returns-in-Drive c = search rules
