-- The count, then the ranges.
use Rattle.codec.proofs.Looking.{stop_counted}
use Rattle.codec.proofs.reading.stopping.Goals as goal

pub returns : goal.returns
returns c = search stop_counted
