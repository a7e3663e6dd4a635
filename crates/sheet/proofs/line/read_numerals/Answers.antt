use Rattle.hexadecimal.proofs.Storing.{store_long}
use Rattle.sheet.proofs.Gathers.{numerals_bad, numerals_last, numerals_more, more_fits, more_few, more_less}
use Rattle.sheet.proofs.line.read_numerals.Goals as goal

pub returns-in_err-b : goal.returns-in_err-b
returns-in_err-b c = rw c.from_residual.ensures (search (numerals_bad, c.in_err-b.was))

pub returns-in-Last : goal.returns-in-Last
returns-in-Last c = search (numerals_last, c.in_ok-b.was)

pub loop-b-smaller : goal.loop-b-smaller
loop-b-smaller c = search (more_less, c.in_ok-b.was)

pub loop-b-preserved : goal.loop-b-preserved
loop-b-preserved c = (search (more_fits, c.in_ok-b.was), (search (more_few, c.in_ok-b.was), (search store_long, search (numerals_more, c.in_ok-b.was))))
