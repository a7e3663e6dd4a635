-- By the checks.
use Rattle.recording.proofs.Exits.{even_command, even_reply, replayed, replayed_not}
use Rattle.recording.proofs.replay.Goals as goal

pub follow-requires : goal.follow-requires
follow-requires c = search (even_command, even_reply)

pub returns-in-Ok : goal.returns-in-Ok
returns-in-Ok c = search replayed

pub returns-in-Err : goal.returns-in-Err
returns-in-Err c = search replayed_not
