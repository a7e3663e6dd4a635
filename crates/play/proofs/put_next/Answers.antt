-- A packet isn't empty, and lies within the list.
use borrow.Author.Rules.{rules}
use Rattle.packet.proofs.Ends.{by_frame, end_fits, end_on, end_within}
use Rattle.play.proofs.put_next.Goals as goal

pub overflow_add-result : goal.overflow_add-result
overflow_add-result c = record { fits = search (end_fits, by_frame, rules) }

pub returns-in-Ok : goal.returns-in-Ok
returns-in-Ok c = (search (end_on, by_frame), search (end_within, by_frame))
