-- A second result that meets a contract is equal to the first, for each public function.
use mathlib.Core.Path.{sym, ◌∙◌}
use Rattle.wire.proofs.OneResult.{OneResult}
use Rattle.trypacket.proofs.build.Reads as build
use Rattle.trypacket.proofs.read.Reads as read
use Rattle.trypacket.proofs.read_status.Reads as read-status

pub build_unique : OneResult build.Post
build_unique κs a r r' s s' p q = p ∙ sym q

pub read_unique : OneResult read.Post
read_unique κs a r r' s s' p q = p ∙ sym q

pub read_status_unique : OneResult read-status.Post
read_status_unique κs a r r' s s' p q = p ∙ sym q
