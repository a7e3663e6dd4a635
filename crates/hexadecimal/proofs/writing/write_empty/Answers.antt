-- One newline, if there is room.
use Rattle.hexadecimal.proofs.Puts.{empty_short, empty_done}
use Rattle.hexadecimal.proofs.writing.write_empty.Goals as goal

pub returns-then-out-lt1 : goal.returns-then-out-lt1
returns-then-out-lt1 c = search empty_short

pub returns : goal.returns
returns c = search empty_done
