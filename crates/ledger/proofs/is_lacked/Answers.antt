use borrow.Author.Rules.{rules}
use Rattle.ledger.specs.Ledger.{is_lacked, does_lack}
use Rattle.ledger.proofs.is_lacked.Goals as goal

pub returns : goal.returns
unfolding is_lacked
returns c = c.has_any.ensures (does_lack c.args.to c.args.c) (λ k e r p. search rules)
