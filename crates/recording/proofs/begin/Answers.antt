-- By the checks.
use Rattle.recording.proofs.Exits.{began, began_not}
use Rattle.recording.proofs.begin.Goals as goal

pub returns-in-Ok : goal.returns-in-Ok
returns-in-Ok c = search began

pub returns-in-Err : goal.returns-in-Err
returns-in-Err c = search began_not
