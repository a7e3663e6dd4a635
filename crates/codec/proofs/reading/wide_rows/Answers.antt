-- Each arm's number is that of one row, and the last arm's of none.
use Rattle.codec.proofs.Looking.{wide_load, wide_gain, wide_stop, not_wide}
use Rattle.codec.proofs.reading.wide_rows.Goals as goal

pub returns-in-4 : goal.returns-in-4
returns-in-4 c = search wide_load

pub returns-in-6 : goal.returns-in-6
returns-in-6 c = search wide_gain

pub returns-in-7 : goal.returns-in-7
returns-in-7 c = search wide_stop

pub returns-in_default : goal.returns-in_default
returns-in_default c = search not_wide
