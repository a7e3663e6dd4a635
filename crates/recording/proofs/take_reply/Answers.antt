-- By how the report ended.
use Rattle.recording.proofs.Exits.{took_done, took_refused}
use Rattle.recording.proofs.take_reply.Goals as goal

pub returns-in-Ok : goal.returns-in-Ok
returns-in-Ok c = search took_done

pub returns-in-Err : goal.returns-in-Err
returns-in-Err c = search took_refused
