-- By how the walk ended.
use Rattle.tryrecording.proofs.Tries.{good_ended, shows_ended, shows_refused}
use Rattle.tryrecording.proofs.put_replay_bytes.Goals as goal

pub put_walk_bytes-requires : goal.put_walk_bytes-requires
put_walk_bytes-requires c = search good_ended

pub returns-in-Ok : goal.returns-in-Ok
returns-in-Ok c = search shows_ended

pub returns-in-Err : goal.returns-in-Err
returns-in-Err c = search shows_refused
