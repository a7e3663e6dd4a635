-- A second result that meets a contract is equal to the first, for each public function.
use mathlib.Core.Path.{sym, ◌∙◌}
use Rattle.wire.proofs.OneResult.{OneResult}
use Rattle.recording.proofs.check.Reads as check
use Rattle.recording.proofs.begin.Reads as begin
use Rattle.recording.proofs.advance.Reads as advance
use Rattle.recording.proofs.replay.Reads as replay

pub check_unique : OneResult check.Post
check_unique κs a r r' s s' p q = p.answer ∙ sym q.answer

pub begin_unique : OneResult begin.Post
begin_unique κs a r r' s s' p q = p.answer ∙ sym q.answer

pub advance_unique : OneResult advance.Post
advance_unique κs a r r' s s' p q = p ∙ sym q

pub replay_unique : OneResult replay.Post
replay_unique κs a r r' s s' p q = p.answer ∙ sym q.answer
