use mathlib.Core.Path.{refl}
use native.Mathlib.Omega.{arith}
use Rattle.ledger.specs.Ledger.{blank_entry, each_from}
use Rattle.ledger.proofs.Turns.{settle_turn, settle_end, least_31}
use Rattle.ledger.proofs.settle.Goals as goal

pub loop-i-init : goal.loop-i-init
unfolding each_from
loop-i-init c = record { counted = c.least-i-end.ensures; few = least_31 _ _ c.least-i-end.ensures; settled = refl }

pub loop-i-preserved : goal.loop-i-preserved
loop-i-preserved c =
    let w : _ = c.loop-i.invariant in
    let a : _ = c.args in
    record {
      counted = w.counted;
      few = w.few;
      settled = settle_turn a.answer a.to a.c _ a.entries _ _ _ blank_entry w.settled c.reach_of.ensures c.note.ensures (omega arith);
    }

pub returns : goal.returns
returns c =
    let w : _ = c.loop-i.invariant in
    let a : _ = c.args in
    settle_end a.answer a.to a.c _ _ a.entries _ (omega (arith, w.counted)) w.settled
