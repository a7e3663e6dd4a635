-- What was read, as much of it as there is room for.
use Rattle.trylines.proofs.Tries.{said_bytes_lem, said_nothing}
use Rattle.trylines.proofs.read_line.Goals as goal

pub returns-in-Some : goal.returns-in-Some
returns-in-Some c = search said_bytes_lem

pub returns-in-None : goal.returns-in-None
returns-in-None c = search said_nothing
