use native.Mathlib.Omega.{arith}
use Rattle.hexadecimal.proofs.Storing.{store_long}
use Rattle.hexadecimal.proofs.Pairing.{pairs_bad, pairs_last, pairs_more, more_fits}
use Rattle.hexadecimal.proofs.pairs.read_pairs.Goals as goal

pub returns-in_err-b : goal.returns-in_err-b
returns-in_err-b c = rw c.from_residual.ensures (search (pairs_bad, c.in_err-b.was))

pub returns-in-Last : goal.returns-in-Last
returns-in-Last c = search (pairs_last, c.in_ok-b.was)

pub loop-b-preserved : goal.loop-b-preserved
loop-b-preserved c = (search (more_fits, c.in_ok-b.was), (omega arith, (search store_long, search (pairs_more, c.in_ok-b.was))))
