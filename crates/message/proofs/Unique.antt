-- A second result that meets a contract is equal to the first, for each public function.
use mathlib.Core.Path.{sym, ◌∙◌}
use Rattle.wire.proofs.OneResult.{OneResult}
use Rattle.message.proofs.Message.of.Reads as message-of
use Rattle.message.proofs.Message.is_answered.Reads as is-answered
use Rattle.message.proofs.Messages.of.Reads as messages-of
use Rattle.message.proofs.Messages.to.Reads as messages-to

pub of_unique : OneResult message-of.Post
of_unique κs a r r' s s' p q = p ∙ sym q

pub is_answered_unique : OneResult is-answered.Post
is_answered_unique κs a r r' s s' p q = p ∙ sym q

pub messages_of_unique : OneResult messages-of.Post
messages_of_unique κs a r r' s s' p q = p ∙ sym q

pub messages_to_unique : OneResult messages-to.Post
messages_to_unique κs a r r' s s' p q = p ∙ sym q
