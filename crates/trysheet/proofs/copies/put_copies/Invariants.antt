-- The invariant: so many copies stand at the start.
use Rattle.buffer.specs.Wrote.{Wrote}
use Rattle.trysheet.specs.Copies.{copies_of}
use Rattle.trysheet.proofs.copies.put_copies.Given as goal

abbrev pub invariant-loop : goal.invariant-loop
invariant-loop l = Wrote (copies_of l.counter l.unit) 0 l.initial.out l.at l.out
