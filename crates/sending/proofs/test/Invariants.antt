-- The invariant: what is left of the sequence decides.
use Rattle.std.proofs.Common.{◌≡◌, Ok, drop}
use Rattle.sending.specs.Sending.{refusing, test_of}
use Rattle.sending.proofs.test.Given as goal

abbrev pub invariant-loop-fails : goal.invariant-loop-fails
invariant-loop-fails l = refusing (Ok tt) (drop l.fails-index l.fails-items) ≡ test_of l.fn.s l.fn.t
