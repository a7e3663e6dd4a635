-- By how long the input is.
use Rattle.trylines.proofs.Tries.{all_long, ok_tried}
use Rattle.trylines.proofs.try_all.Goals as goal

pub returns-then-input-gt-MOST : goal.returns-then-input-gt-MOST
returns-then-input-gt-MOST g c = search all_long

pub returns : goal.returns
returns g c = ok_tried _ _ c.if-input-gt-MOST.false c.try_lines.ensures
