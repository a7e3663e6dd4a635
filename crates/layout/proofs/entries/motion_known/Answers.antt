use Rattle.std.proofs.Common.{rules}
use Rattle.layout.specs.Entries.{motion_known}
use Rattle.layout.proofs.entries.motion_known.Goals as goal

pub returns : goal.returns
unfolding motion_known
returns c = search rules
