use Rattle.std.proofs.Common.{rules}
use Rattle.layout.specs.Entries.{put_known}
use Rattle.layout.proofs.entries.put_known.Goals as goal

pub returns-in-Gate : goal.returns-in-Gate
unfolding put_known
returns-in-Gate c = search rules

pub returns-in-Drive : goal.returns-in-Drive
unfolding put_known
returns-in-Drive c = search rules
