-- The first byte, the others, the newline, where three characters for each byte have room.
use Rattle.hexadecimal.proofs.Puts.{line_room, line_done}
use Rattle.hexadecimal.proofs.writing.write_line.Goals as goal

pub returns-then-out-n : goal.returns-then-out-n
returns-then-out-n c = search line_room

pub returns : goal.returns
returns c = search line_done
