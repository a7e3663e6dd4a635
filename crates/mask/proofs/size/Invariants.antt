-- The invariant: what is counted, and what the rest of the table will give under the rest of the mask, is the size.
use Rattle.mask.proofs.Sizes.{Counted}
use Rattle.mask.proofs.size.Given as goal

abbrev pub invariant-loop-count : goal.invariant-loop-count
invariant-loop-count l = Counted l.mask l.count-items l.bits l.n l.count-index
