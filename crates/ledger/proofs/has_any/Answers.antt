use native.Mathlib.Omega.{arith}
use Rattle.ledger.specs.Ledger.{blank_entry}
use Rattle.ledger.proofs.Turns.{any_start, any_found, any_turn, any_none, least_31}
use Rattle.ledger.proofs.has_any.Goals as goal

pub loop-i-init : goal.loop-i-init
loop-i-init g c = record {
  counted = c.least-i-end.ensures;
  few = least_31 _ _ c.least-i-end.ensures;
  rest = λ t h. any_start t _ _ _ c.least-i-end.ensures;
}

pub returns-then-test : goal.returns-then-test
returns-then-test g c = λ t h.
    any_found t _ _ _ _ (c.loop-i.invariant.rest t h) blank_entry _ (h _ _ _ c.test.ensures) c.if-test.true (omega arith) (omega arith)

pub loop-i-preserved : goal.loop-i-preserved
loop-i-preserved g c = record {
  counted = c.loop-i.invariant.counted;
  few = c.loop-i.invariant.few;
  rest = λ t h. any_turn t _ _ _ _ (c.loop-i.invariant.rest t h) blank_entry _ (h _ _ _ c.test.ensures) c.if-test.false (omega arith) (omega arith);
}

pub returns : goal.returns
returns g c = λ t h. any_none t _ _ _ _ (c.loop-i.invariant.rest t h) (omega arith)
