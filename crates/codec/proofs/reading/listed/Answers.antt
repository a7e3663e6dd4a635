-- Each arm's command byte is that of one row, and the last arm's of none but perhaps a drive's with data bytes.
use Rattle.codec.specs.Reading.{shared_rows, gate_rows, drive_rows}
use Rattle.codec.specs.Looking.{listed_of}
use Rattle.codec.proofs.Looking.{row, placed_row, pwm_row, start_row, outputs_row, held_row, unlisted}
use Rattle.codec.proofs.reading.listed.Goals as goal

pub returns-in-33 : goal.returns-in-33
unfolding listed_of shared_rows gate_rows drive_rows
returns-in-33 c = search placed_row

pub returns-in-18 : goal.returns-in-18
unfolding listed_of shared_rows gate_rows drive_rows
returns-in-18 c = search row

pub returns-in-19 : goal.returns-in-19
unfolding listed_of shared_rows gate_rows drive_rows
returns-in-19 c = search row

pub returns-in-26 : goal.returns-in-26
unfolding listed_of shared_rows gate_rows drive_rows
returns-in-26 c = search row

pub returns-in-14 : goal.returns-in-14
unfolding listed_of shared_rows gate_rows drive_rows
returns-in-14 c = search row

pub returns-in-15 : goal.returns-in-15
unfolding listed_of shared_rows gate_rows drive_rows
returns-in-15 c = search row

pub returns-in-36 : goal.returns-in-36
unfolding listed_of shared_rows gate_rows drive_rows
returns-in-36 c = search pwm_row

pub returns-in-5 : goal.returns-in-5
unfolding listed_of shared_rows gate_rows drive_rows
returns-in-5 c = search start_row

pub returns-in-38 : goal.returns-in-38
unfolding listed_of shared_rows gate_rows drive_rows
returns-in-38 c = search outputs_row

pub returns-in-71 : goal.returns-in-71
unfolding listed_of shared_rows gate_rows drive_rows
returns-in-71 c = search held_row

pub returns-in-24 : goal.returns-in-24
unfolding listed_of shared_rows gate_rows drive_rows
returns-in-24 c = search row

pub returns-in-12 : goal.returns-in-12
unfolding listed_of shared_rows gate_rows drive_rows
returns-in-12 c = search row

pub returns-in-0 : goal.returns-in-0
unfolding listed_of shared_rows gate_rows drive_rows
returns-in-0 c = search row

pub returns-in_default : goal.returns-in_default
unfolding listed_of shared_rows gate_rows drive_rows
returns-in_default c = search unlisted
