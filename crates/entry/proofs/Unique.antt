-- A second result that meets a contract is equal to the first, for each public function.
use mathlib.Core.Path.{sym, ◌∙◌}
use Rattle.wire.proofs.OneResult.{OneResult}
use Rattle.entry.proofs.Entry.power_up.Reads as power-up
use Rattle.entry.proofs.Entry.doubt.Reads as doubt
use Rattle.entry.proofs.Entry.note.Reads as note

pub power_up_unique : OneResult power-up.Post
power_up_unique κs a r r' s s' p q = p ∙ sym q

pub doubt_unique : OneResult doubt.Post
doubt_unique κs a r r' s s' p q = p ∙ sym q

pub note_unique : OneResult note.Post
note_unique κs a r r' s s' p q = p ∙ sym q
