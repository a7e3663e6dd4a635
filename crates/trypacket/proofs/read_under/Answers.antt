-- The number first, then the parts.
use Rattle.trypacket.proofs.Trials.{under_whole, under_refused}
use Rattle.trypacket.proofs.read_under.Goals as goal

pub returns-in-Ok : goal.returns-in-Ok
returns-in-Ok c = search under_whole

pub returns-in-Err : goal.returns-in-Err
returns-in-Err c = search under_refused
