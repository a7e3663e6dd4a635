-- A second result that meets a contract is equal to the first, for each public function.
use mathlib.Core.Path.{sym, ◌∙◌}
use Rattle.wire.proofs.OneResult.{OneResult}
use Rattle.wire.proofs.Parts.{OnePart, one_part_lem}
use Rattle.capture.proofs.check.Reads as check
use Rattle.capture.proofs.step.Reads as step
use Rattle.capture.proofs.packet_at.Reads as packet-at

pub check_unique : OneResult check.Post
check_unique κs a r r' s s' p q = p.answer ∙ sym q.answer

pub step_unique : OneResult step.Post
step_unique κs a r r' s s' p q = p ∙ sym q

-- the same capture, the same position in it and the same bytes, so the same machine value
pub packet_at_unique : OnePart packet-at.Post
packet_at_unique κs a r r' s s' p q = one_part_lem p q
