-- The invariant: what is added, then what the rest of the items will give under the rest of the mask, is all that is asked for.
use Rattle.std.proofs.Common.{length}
use Rattle.status.specs.Status.{counts}
use Rattle.reply.specs.Items.{values_of}
use Rattle.reply.proofs.Growing.{Passed}
use Rattle.reply.proofs.put_items.Given as goal

abbrev pub invariant-loop-count : goal.invariant-loop-count
invariant-loop-count l = Passed l.mask (counts l.fn.x.kind) (values_of l.fn.x) l.end l.initial.out l.out l.bits l.at (length l.yielded)
