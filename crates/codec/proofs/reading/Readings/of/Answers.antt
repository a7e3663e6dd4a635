-- The rows are looked up by the command byte, which holds the number and the count.
use Rattle.codec.proofs.Looking.{no_number, no_count, looked_up}
use Rattle.codec.proofs.reading.Readings.of.Goals as goal

pub returns-then-command-gt15 : goal.returns-then-command-gt15
returns-then-command-gt15 c = search no_number

pub returns-then-bytes-gt15 : goal.returns-then-bytes-gt15
returns-then-bytes-gt15 c = search no_count

pub returns : goal.returns
returns c = search looked_up
