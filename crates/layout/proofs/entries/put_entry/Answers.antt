use Rattle.std.proofs.Common.{rules}
use Rattle.layout.specs.Entries.{put_entry}
use Rattle.layout.proofs.entries.put_entry.Goals as goal

pub returns : goal.returns
unfolding put_entry
returns c = search rules
