use borrow.Author.Rules.{rules}
use Rattle.replay.proofs.Digits.{digits_other, digits_late, digits_on}
use Rattle.replay.proofs.runs.read_digits.Goals as goal

pub returns-then-not-is_ascii_digit : goal.returns-then-not-is_ascii_digit
returns-then-not-is_ascii_digit c = digits_other c.args.s.now c.loop-b.b-index c.loop-b.number _ c.loop-b.invariant.1 c.loop-b-test.true c.if-not-is_ascii_digit.ensures.cases

pub returns-then-next-gt-LATEST : goal.returns-then-next-gt-LATEST
returns-then-next-gt-LATEST c = digits_late c.args.s.now c.loop-b.b-index c.loop-b.number _ c.loop-b.invariant.1 c.loop-b-test.true c.if-not-is_ascii_digit.ensures.cases c.if-next-gt-LATEST.true

pub loop-b-preserved : goal.loop-b-preserved
loop-b-preserved c = (search rules, digits_on c.args.s.now c.loop-b.b-index c.loop-b.number _ c.loop-b.invariant.1 c.loop-b-test.true c.if-not-is_ascii_digit.ensures.cases c.if-next-gt-LATEST.false)
