use borrow.Author.Rules.{rules}
use Rattle.std.proofs.lemmas.Result.{err_from_is_err_and}
use Rattle.packet.proofs.Ends.{by_read, end_fits, end_within, end_less, end_count}
use Rattle.sheet.proofs.Exports.{count_refused, count_on, count_done}
use Rattle.sheet.proofs.exporting.count_packets.Goals as goal

pub returns-in_err-framed : goal.returns-in_err-framed
returns-in_err-framed c =
    let p = err_from_is_err_and c.from_residual.result c.from_residual.ensures.1 in
    rw (p.1, p.2) (search (count_refused, c.in_err-framed.was))

pub overflow_add-at : goal.overflow_add-at
overflow_add-at c = record { fits = search (end_fits, by_read, c.in_ok-framed.was, rules) }

pub loop-at-smaller : goal.loop-at-smaller
loop-at-smaller c = search (end_less, by_read, c.in_ok-framed.was)

pub loop-at-preserved : goal.loop-at-preserved
loop-at-preserved c = (search (end_within, by_read, c.in_ok-framed.was), (search (end_count, by_read, c.in_ok-framed.was), search (count_on, c.in_ok-framed.was)))

pub returns : goal.returns
returns c = search count_done
