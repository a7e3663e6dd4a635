-- All of `src` has room, or nothing is written.
use Rattle.std.proofs.Common.{arith}
use Rattle.buffer.proofs.Writing.{put_not, put_copied}
use Rattle.buffer.proofs.put.Goals as goal

pub returns-then-out-at : goal.returns-then-out-at
returns-then-out-at c = put_not _ _ _ (omega arith)

pub returns-then-out-at-2 : goal.returns-then-out-at-2
returns-then-out-at-2 c = put_not _ _ _ (omega arith)

pub returns : goal.returns
returns c = put_copied _ _ _ _ c.copy_from_slice.ensures.after (omega arith)
