-- A second result that meets a contract is equal to the first, for each public function.
use mathlib.Core.Path.{sym, ◌∙◌}
use Rattle.wire.proofs.OneResult.{OneResult}
use Rattle.command.proofs.Command.role.Reads as role
use Rattle.command.proofs.Role.is_placing.Reads as is-placing
use Rattle.command.proofs.Role.is_pacing.Reads as is-pacing
use Rattle.command.proofs.Role.is_nop.Reads as is-nop
use Rattle.command.proofs.Role.is_reset.Reads as is-reset
use Rattle.command.proofs.Command.owner.Reads as owner
use Rattle.command.proofs.Command.fits.Reads as fits
use Rattle.command.proofs.has.Reads as has
use Rattle.command.proofs.is_listed.Reads as is-listed
use Rattle.command.proofs.Loads.of.Reads as loads-of
use Rattle.command.proofs.is_stop_here.Reads as is-stop-here

pub role_unique : OneResult role.Post
role_unique κs a r r' s s' p q = p ∙ sym q

pub is_placing_unique : OneResult is-placing.Post
is_placing_unique κs a r r' s s' p q = p ∙ sym q

pub is_pacing_unique : OneResult is-pacing.Post
is_pacing_unique κs a r r' s s' p q = p ∙ sym q

pub is_nop_unique : OneResult is-nop.Post
is_nop_unique κs a r r' s s' p q = p ∙ sym q

pub is_reset_unique : OneResult is-reset.Post
is_reset_unique κs a r r' s s' p q = p ∙ sym q

pub owner_unique : OneResult owner.Post
owner_unique κs a r r' s s' p q = p ∙ sym q

pub fits_unique : OneResult fits.Post
fits_unique κs a r r' s s' p q = p ∙ sym q

pub has_unique : OneResult has.Post
has_unique κs a r r' s s' p q = p ∙ sym q

pub is_listed_unique : OneResult is-listed.Post
is_listed_unique κs a r r' s s' p q = p ∙ sym q

pub loads_of_unique : OneResult loads-of.Post
loads_of_unique κs a r r' s s' p q = p ∙ sym q

pub is_stop_here_unique : OneResult is-stop-here.Post
is_stop_here_unique κs a r r' s s' p q = p ∙ sym q
