-- The line has room in 64 bytes, so that its writer does not refuse.
use native.Mathlib.Omega.{arith}
use Rattle.script.proofs.TextLines.{reply_room, reply_done, reply_refused}
use Rattle.script.proofs.answers.put_hex_line.Goals as goal

pub append-requires : goal.append-requires
append-requires c = (omega arith, search reply_room)

pub returns-in-Ok : goal.returns-in-Ok
returns-in-Ok c = search reply_done

pub returns-in-Err : goal.returns-in-Err
returns-in-Err c = search reply_refused
