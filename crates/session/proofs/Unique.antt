-- A second result that meets a contract is equal to the first, for each public function.
use mathlib.Core.Path.{sym, ◌∙◌}
use Rattle.wire.proofs.OneResult.{OneResult}
use Rattle.session.proofs.look.Reads as look
use Rattle.session.proofs.is_closed.Reads as is-closed
use Rattle.session.proofs.is_ask_due.Reads as is-ask-due
use Rattle.session.proofs.given_place.Reads as given-place
use Rattle.session.proofs.off_chain.Reads as off-chain
use Rattle.session.proofs.refuse.Reads as refuse

pub look_unique : OneResult look.Post
look_unique κs a r r' s s' p q = p.answer ∙ sym q.answer

pub is_closed_unique : OneResult is-closed.Post
is_closed_unique κs a r r' s s' p q = p ∙ sym q

pub is_ask_due_unique : OneResult is-ask-due.Post
is_ask_due_unique κs a r r' s s' p q = p ∙ sym q

pub given_place_unique : OneResult given-place.Post
given_place_unique κs a r r' s s' p q = p ∙ sym q

pub off_chain_unique : OneResult off-chain.Post
off_chain_unique κs a r r' s s' p q = p ∙ sym q

pub refuse_unique : OneResult refuse.Post
refuse_unique κs a r r' s s' p q = p.answer ∙ sym q.answer
