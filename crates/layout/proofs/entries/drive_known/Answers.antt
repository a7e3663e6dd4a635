use Rattle.std.proofs.Common.{rules}
use Rattle.layout.specs.Entries.{drive_known}
use Rattle.layout.proofs.entries.drive_known.Goals as goal

pub returns : goal.returns
unfolding drive_known
returns c = search rules
