-- Entry by entry.
use Rattle.std.proofs.Common.{rules}
use Rattle.fields.proofs.Turns.{one_put, all_put}
use Rattle.layout.specs.Entries.{put_entries}
use Rattle.layout.proofs.entries.put_entries.Goals as goal

pub loop-e-preserved : goal.loop-e-preserved
loop-e-preserved c = search (one_put, rules)

pub returns : goal.returns
unfolding put_entries
returns c = search (all_put, rules)
