-- A second result that meets a contract is equal to the first, for each public function.
use mathlib.Core.Path.{sym, ◌∙◌}
use Rattle.wire.proofs.OneResult.{OneResult}
use Rattle.tryhost.proofs.with_session.Reads as with-session
use Rattle.tryhost.proofs.attempt.Reads as attempt

pub with_session_unique : OneResult with-session.Post
with_session_unique κs a r r' s s' p q = p ∙ sym q

pub attempt_unique : OneResult attempt.Post
attempt_unique κs a r r' s s' p q = p ∙ sym q
