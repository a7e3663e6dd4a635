-- Refused as its first packet at fault is; else by the length of its sheet.
use Rattle.std.proofs.lemmas.Result.{err_from_is_err_and}
use Rattle.sheet.proofs.Exports.{export_refused, export_few, export_short, export_shorter, export_room, export_done}
use Rattle.sheet.proofs.exporting.export.Goals as goal

pub overflow_sub-more : goal.overflow_sub-more
overflow_sub-more c = search (export_few, c.in_ok-count.was)

pub returns-then-room-length : goal.returns-then-room-length
returns-then-room-length c = search (export_short, c.in_ok-count.was)

pub returns-then-room-length-2 : goal.returns-then-room-length-2
returns-then-room-length-2 c = search (export_shorter, c.in_ok-count.was)

pub put_lines-requires : goal.put_lines-requires
put_lines-requires c = search (export_room, c.in_ok-count.was)

pub returns-in_err-count : goal.returns-in_err-count
returns-in_err-count c =
    let p = err_from_is_err_and c.from_residual.result c.from_residual.ensures.1 in
    rw (p.1, p.2) (search (export_refused, c.in_err-count.was))

pub returns : goal.returns
returns c = search (export_done, c.in_ok-count.was)
