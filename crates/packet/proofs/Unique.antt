-- A second result that meets a contract is equal to the first, for each public function.
use Rattle.std.proofs.Common.{◌≡◌, sym, ◌∙◌}
use Rattle.wire.proofs.OneResult.{OneResult}
use Rattle.wire.proofs.Parts.{OnePart, one_part_lem}
use Rattle.packet.proofs.frame.Reads as frame
use Rattle.packet.proofs.is_intact.Reads as is-intact
use Rattle.packet.proofs.read.Reads as read
use Rattle.packet.proofs.data_part.Reads as data-part
use Rattle.packet.proofs.build.Reads as build

pub frame_unique : OneResult frame.Post
frame_unique κs a r r' s s' p q = p.answer ∙ sym q.answer

pub is_intact_unique : OneResult is-intact.Post
is_intact_unique κs a r r' s s' p q = p ∙ sym q

pub read_unique : OneResult read.Post
read_unique κs a r r' s s' p q = p.answer ∙ sym q.answer

pub data_part_unique : OnePart data-part.Post
data_part_unique κs a r r' s s' p q = one_part_lem p q

-- the result, and what the lent buffer holds
pub build_unique : (κs : _) (a : _) (r r' : _) (s s' : _) → build.Post κs a r s → build.Post κs a r' s'
    → (r ≡ r') × (s.1.1.1.0.now ≡ s'.1.1.1.0.now)
build_unique κs a r r' s s' p q = (p.answer ∙ sym q.answer, p.leaves ∙ sym q.leaves)
