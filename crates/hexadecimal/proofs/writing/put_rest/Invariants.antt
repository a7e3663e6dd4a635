-- The invariant: the bytes from here on, behind those written, give what all of them give.
use Rattle.hexadecimal.proofs.Puts.{Going}
use Rattle.hexadecimal.proofs.writing.put_rest.Given as goal

abbrev pub invariant-loop-i : goal.invariant-loop-i
invariant-loop-i l = Going l.initial.out l.at l.bytes l.out l.i
