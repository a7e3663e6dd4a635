use Rattle.std.proofs.Common.{rules, refl, arith}
use Rattle.layout.proofs.Known.{entry_more, entries_end}
use Rattle.layout.proofs.entries.read_entries.Goals as goal

pub loop-entry-init : goal.loop-entry-init
loop-entry-init c = (omega arith, refl, refl)

pub loop-entry-preserved : goal.loop-entry-preserved
loop-entry-preserved c = (search rules, search rules, search entry_more)

pub returns : goal.returns
returns c = search entries_end
