use borrow.Author.Rules.{rules}
use Rattle.ledger.specs.Ledger.{is_led, is_rival}
use Rattle.ledger.proofs.is_led.Goals as goal

pub returns : goal.returns
unfolding is_led
returns c = c.has_any.ensures (is_rival c.args.k c.args.g) (λ j e r p. search rules)
