-- Invariant: the first i entries are in doubt, the others as they were.
use mathlib.Core.Path.{◌≡◌}
use lib.ListN.{length}
use Rattle.ledger.specs.Ledger.{each_from}
use Rattle.ledger.proofs.Turns.{forgetting}
use Rattle.ledger.proofs.forget.Given as goal

abbrev pub invariant-loop-i : goal.invariant-loop-i
invariant-loop-i l = (length l.fn.entries ≡ 31) × (l.all ≡ each_from forgetting 1 l.i l.fn.entries)
