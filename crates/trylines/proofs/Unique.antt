-- A second result that meets a contract is equal to the first, for each public function.
use mathlib.Core.Path.{sym, ◌∙◌}
use denote.RattleType.{RattleType}
use denote.Param.Laws.{Laws}
use mir.Syntax.{Dict}
use Rattle.std.specs.Prelude.{Ok}
use Rattle.std.specs.declared.io.Print.{Ghosts}
use Rattle.wire.proofs.OneResult.{OneResult}
use Rattle.trylines.proofs.input_room.Reads as input-room
use Rattle.trylines.proofs.attempt.Reads as attempt
use Rattle.trylines.proofs.try_all.Reads as try-all

pub input_room_unique : OneResult input-room.Post
input_room_unique κs a r r' s s' p q = p ∙ sym q

pub attempt_unique : OneResult attempt.Post
attempt_unique κs a r r' s s' p q = p ∙ sym q

-- of the sessions that it gives: where a write fails, it gives none
module _ (T : RattleType) (L : Laws T) (P : Ghosts T.Denot) (D : Dict) where
  pub try_all_unique : OneResult (λ κs a r s. try-all.Post T L P D κs a (Ok r) s)
  try_all_unique κs a r r' s s' p q = p ∙ sym q
