-- By a law at any length.
use mathlib.Core.Path.{refl}
use Rattle.trylines.proofs.Tries.{all_zero}
use Rattle.trylines.proofs.input_room.Goals as goal

pub returns : goal.returns
returns c = all_zero 65537 refl
