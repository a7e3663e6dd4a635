-- The invariant: what is written, then what the rest of the value and the sum will give, is the whole item with its sum.
use Rattle.std.proofs.Common.{◌≡◌, ◌+◌, ◌-◌, ◌<◌, true, length, get_or}
use lib.Seq.{sets}
use Rattle.reply.specs.Items.{bytes_of}
use Rattle.reply.specs.Grown.{carried_on}
use Rattle.reply.proofs.put_item.Given as goal

abbrev pub invariant-loop-i : goal.invariant-loop-i
invariant-loop-i l = (l.wanted ≡ true)
    × (l.end + l.count < length l.initial.out)
    × (l.initial.sum ≡ get_or l.initial.out l.end 0)
    × (sets l.out (l.end + l.i) (carried_on l.sum (bytes_of (l.count - l.i) l.rest)) ≡ sets l.initial.out l.end (carried_on l.initial.sum (bytes_of l.count l.initial.rest)))
