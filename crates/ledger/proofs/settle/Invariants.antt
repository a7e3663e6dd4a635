-- Invariant: the first i entries are settled, the others as they were.
use Prim.Native.Nat.{◌≤◌}
use mathlib.Core.Path.{◌≡◌}
use Rattle.ledger.specs.Ledger.{each_from, settling, ledger_least}
use Rattle.ledger.proofs.settle.Given as goal

abbrev pub invariant-loop-i : goal.invariant-loop-i
invariant-loop-i l = record {
  counted : l.i-end ≡ ledger_least l.n;
  few : l.i-end ≤ 31;
  settled : l.all ≡ each_from (settling l.answer l.to l.c) 1 l.i l.fn.entries;
}
