-- By whether the line is of its form.
use Rattle.script.proofs.Playing.{play_good, play_bad}
use Rattle.script.proofs.rehearsal.play.Goals as goal

pub returns-in-Some : goal.returns-in-Some
returns-in-Some c = search play_good

pub returns-in-None : goal.returns-in-None
returns-in-None c = search play_bad
