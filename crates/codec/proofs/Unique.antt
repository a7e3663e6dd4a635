-- A second result that meets a contract is equal to the first, for each public function.
use mathlib.Core.Path.{◌≡◌, sym, ◌∙◌}
use Rattle.wire.proofs.OneResult.{OneResult}
use Rattle.codec.proofs.reading.Readings.of.Reads as readings-of
use Rattle.codec.proofs.reading.read.Reads as read
use Rattle.codec.proofs.own.drive_own.Reads as drive_own_lem
use Rattle.codec.proofs.building.build.Reads as build
use Rattle.codec.proofs.building.put_packet_to.Reads as put-packet-to

pub readings_of_unique : OneResult readings-of.Post
readings_of_unique κs a r r' s s' p q = p ∙ sym q

pub read_unique : OneResult read.Post
read_unique κs a r r' s s' p q = p ∙ sym q

pub drive_own_unique : OneResult drive_own_lem.Post
drive_own_unique κs a r r' s s' p q = p ∙ sym q

-- the result, and what the lent buffer holds
pub build_unique : (κs : _) (a : _) (r r' : _) (s s' : _) → build.Post κs a r s → build.Post κs a r' s'
    → (r ≡ r') × (s.1.1.0.now ≡ s'.1.1.0.now)
build_unique κs a r r' s s' p q = (p.answer ∙ sym q.answer, p.leaves ∙ sym q.leaves)

pub put_packet_to_unique : (κs : _) (a : _) (r r' : _) (s s' : _) → put-packet-to.Post κs a r s → put-packet-to.Post κs a r' s'
    → (r ≡ r') × (s.1.1.0.now ≡ s'.1.1.0.now)
put_packet_to_unique κs a r r' s s' p q = (p.answer ∙ sym q.answer, p.leaves ∙ sym q.leaves)
