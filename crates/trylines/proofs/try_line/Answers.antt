-- By the bytes that were kept.
use Rattle.trylines.proofs.Tries.{ok_line}
use Rattle.trylines.proofs.try_line.Goals as goal

pub returns : goal.returns
returns g c =
    ok_line _ _ _ _ _ _ _ _ _ c.room-room.ensures.size c.read_line-n.ensures c.first-bytes.ensures.holds c.byte.ensures c.rest.ensures.holds c.try_bytes.ensures
