-- Invariant: the first i entries are of the kinds told, the others gates'.
use Prim.Native.Nat.{◌≤◌}
use mathlib.Core.Path.{◌≡◌}
use Rattle.ledger.specs.Ledger.{all_gates, telling, each_from, ledger_least}
use Rattle.ledger.proofs.power_up.Given as goal

abbrev pub invariant-loop-i : goal.invariant-loop-i
invariant-loop-i l = record {
  counted : l.told ≡ ledger_least l.n;
  few : l.told ≤ 31;
  told : l.all ≡ each_from (telling l.fn.kinds) 1 l.i all_gates;
}
