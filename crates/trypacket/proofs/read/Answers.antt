-- The number first, then the end and the parts.
use Rattle.trypacket.proofs.Trials.{end_small, read_whole, read_refused}
use Rattle.trypacket.proofs.read.Goals as goal

pub overflow_cast-framed : goal.overflow_cast-framed
overflow_cast-framed c = search (end_small, c.shared_slice_known-1.given 2)

pub returns-in-Ok : goal.returns-in-Ok
returns-in-Ok c = search read_whole

pub returns-in-Err : goal.returns-in-Err
returns-in-Err c = search read_refused
