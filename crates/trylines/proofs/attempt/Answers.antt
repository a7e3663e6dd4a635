-- By whether it is one of the host's.
use Rattle.trylines.proofs.Tries.{attempts_host, attempts_other}
use Rattle.trylines.proofs.attempt.Goals as goal

pub returns-then-kind-eq3 : goal.returns-then-kind-eq3
returns-then-kind-eq3 c = search attempts_host

pub returns : goal.returns
returns c = search attempts_other
