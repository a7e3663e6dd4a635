-- Found, or none.
use Rattle.recording.proofs.Exits.{took_call, took_none}
use Rattle.recording.proofs.take_command.Goals as goal

pub returns-in-Some : goal.returns-in-Some
returns-in-Some c = search took_call

pub returns-in-None : goal.returns-in-None
returns-in-None c = search took_none
