use Rattle.std.proofs.Common.{rules, refl, arith}
use Rattle.fields.proofs.Turns.{good, one_long}
use Rattle.layout.proofs.Known.{entries_start, entries_bad, entries_good}
use Rattle.layout.proofs.entries.are_entries.Goals as goal

pub loop-init : goal.loop-init
loop-init c = (omega arith, refl, search entries_start)

pub returns-then-not-is_entry : goal.returns-then-not-is_entry
returns-then-not-is_entry c = search entries_bad

pub loop-preserved : goal.loop-preserved
loop-preserved c = (search rules, search good, search one_long)

pub returns : goal.returns
returns c = search entries_good
