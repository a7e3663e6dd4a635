use borrow.Author.Rules.{rules}
use Rattle.packet.proofs.Ends.{by_read, end_fits, end_within, end_less, end_count}
use Rattle.export.proofs.first_fault.Goals as goal

pub overflow_add-at : goal.overflow_add-at
overflow_add-at c = record { fits = search (end_fits, by_read, rules) }

pub loop-at-smaller : goal.loop-at-smaller
loop-at-smaller c = search (end_less, by_read)

pub loop-at-preserved : goal.loop-at-preserved
loop-at-preserved c = (search (end_within, by_read), search (end_count, by_read))
