-- Invariant: the search from node i + 1 on equals the whole search, by every test that the closure computes.
use Prim.Native.Nat.{ℕ, ◌≤◌, ◌-◌, ◌+◌}
use mathlib.Core.Bool.{Bool}
use mathlib.Core.Path.{◌≡◌}
use lib.ListN.{drop}
use Rattle.entry.specs.declared.Entry.{Entry}
use Rattle.ledger.specs.Ledger.{any_from, ledger_least}
use Rattle.ledger.proofs.has_any.Given as goal

abbrev pub invariant-loop-i : goal.invariant-loop-i
invariant-loop-i g l = record {
  counted : l.i-end ≡ ledger_least l.n;
  few : l.i-end ≤ 31;
  rest : (t : ℕ → Entry → Bool) → ((k : ℕ) (e : Entry) (r : Bool) → goal.F-post g l.test k e r → r ≡ t k e) → any_from t (l.i + 1) (l.i-end - l.i) (drop l.i l.entries) ≡ any_from t 1 (ledger_least l.n) l.entries;
}
