use mathlib.Core.Path.{refl}
use native.Mathlib.Omega.{arith}
use Rattle.ledger.specs.Ledger.{all_gates, each_from}
use Rattle.ledger.proofs.Turns.{least_31, gates_31, up_turn, up_end}
use Rattle.ledger.proofs.power_up.Goals as goal

pub loop-i-init : goal.loop-i-init
unfolding each_from all_gates
loop-i-init c = record { counted = c.least-told.ensures; few = least_31 _ _ c.least-told.ensures; told = rw c.power_up-all.ensures }

pub loop-i-preserved : goal.loop-i-preserved
loop-i-preserved c =
    let w : _ = c.loop-i.invariant in
    record { counted = w.counted; few = w.few; told = up_turn _ _ _ _ _ w.told c.power_up.ensures (omega (arith, w.few, gates_31)) }

pub returns : goal.returns
returns c = let w : _ = c.loop-i.invariant in up_end _ _ _ _ _ (omega (arith, w.counted)) refl w.told
