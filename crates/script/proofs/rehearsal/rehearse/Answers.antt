-- It is written if it has room.
use Rattle.script.proofs.Whole.{rehearse_short, rehearse_done}
use Rattle.script.proofs.rehearsal.rehearse.Goals as goal

pub returns-then-lacks_room : goal.returns-then-lacks_room
returns-then-lacks_room c = search rehearse_short

pub returns : goal.returns
returns c = search rehearse_done
