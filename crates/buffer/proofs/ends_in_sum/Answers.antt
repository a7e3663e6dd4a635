-- Where there is a last byte, the sum of those before it is compared with it.
use Rattle.std.proofs.Common.{arith, lt-ltb, sym, length}
use Rattle.buffer.specs.Sum.{ends_in_sum}
use Rattle.buffer.proofs.Sums.{ends_by}
use Rattle.buffer.proofs.ends_in_sum.Goals as goal

pub returns-in-Some : goal.returns-in-Some
returns-in-Some c = rw c.sum.ensures (sym (ends_by _ _ _ c.in-Some.ensures.cases.0))

pub returns-in-None : goal.returns-in-None
unfolding ends_in_sum
returns-in-None c = rw (lt-ltb (length c.args.s.now) 1 (omega (arith, c.in-None.ensures.cases)))
