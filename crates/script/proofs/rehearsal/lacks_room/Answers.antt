-- In the room for every text there is room for this one; else its length is found.
use Rattle.script.proofs.Whole.{any_has_room, found_room}
use Rattle.script.proofs.rehearsal.lacks_room.Goals as goal

pub returns-then-room-ge-LONGEST : goal.returns-then-room-ge-LONGEST
returns-then-room-ge-LONGEST c = search any_has_room

pub returns : goal.returns
returns c = search found_room
