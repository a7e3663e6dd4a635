use borrow.Author.Rules.{rules}
use Rattle.ledger.specs.Ledger.{is_unlisted, lacks_divisor}
use Rattle.ledger.proofs.is_unlisted.Goals as goal

pub returns : goal.returns
unfolding is_unlisted
returns c = c.has_any.ensures (λ k. lacks_divisor c.args.divisor) (λ k e r p. search rules)
