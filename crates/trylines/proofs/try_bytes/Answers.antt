-- By whether it is a recording.
use Rattle.trylines.proofs.Tries.{after_recording, ok_other}
use Rattle.trylines.proofs.try_bytes.Goals as goal

pub returns-then-kind-eq80 : goal.returns-then-kind-eq80
returns-then-kind-eq80 g c = search after_recording

pub returns : goal.returns
returns g c = ok_other _ _ _ _ _ c.if-kind-eq80.false c.attempt.ensures c.show_tried.ensures
