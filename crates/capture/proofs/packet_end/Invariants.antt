-- The invariant: the packet reaches byte i.
use Rattle.capture.proofs.Ends.{Reaching}
use Rattle.capture.proofs.packet_end.Given as goal

abbrev pub invariant-loop-i : goal.invariant-loop-i
invariant-loop-i l = Reaching l.times l.at l.i
