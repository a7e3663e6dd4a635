use mathlib.Core.Path.{refl}
use native.Mathlib.Omega.{arith}
use borrow.Author.Rules.{rules}
use Rattle.ledger.specs.Ledger.{blank_entry, each_from}
use Rattle.ledger.proofs.Turns.{forget_turn, forget_end}
use Rattle.ledger.proofs.forget.Goals as goal

pub loop-i-init : goal.loop-i-init
unfolding each_from
loop-i-init c = (search rules, refl)

pub loop-i-preserved : goal.loop-i-preserved
loop-i-preserved c =
    let w : _ = c.loop-i.invariant in
    (w.0, forget_turn _ _ _ _ blank_entry w.1 c.doubt.ensures (omega (arith, w.0)))

pub returns : goal.returns
returns c = let w : _ = c.loop-i.invariant in forget_end _ _ _ (omega (arith, w.0)) w.1
