use borrow.Author.Rules.{rules}
use Rattle.sheet.proofs.Laying.{wrote_kept}
use Rattle.packet.proofs.Ends.{by_frame, end_fits, end_within, end_less}
use Rattle.sheet.proofs.Exports.{lines_never, line_some, line_room, lines_on, lines_done}
use Rattle.sheet.proofs.exporting.put_lines.Goals as goal

pub returns-in-Err : goal.returns-in-Err
returns-in-Err c = search lines_never

pub put_line-to-requires : goal.put_line-to-requires
put_line-to-requires c = (search line_some, search line_room)

pub overflow_add-at : goal.overflow_add-at
overflow_add-at c = record { fits = search (end_fits, by_frame, rules) }

pub loop-at-smaller : goal.loop-at-smaller
loop-at-smaller c = search (end_less, by_frame)

pub loop-at-preserved : goal.loop-at-preserved
loop-at-preserved c = (search (end_within, by_frame), (search wrote_kept, search lines_on))

pub returns : goal.returns
returns c = search lines_done
