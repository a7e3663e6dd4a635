-- Each exit is one law.
use Rattle.wire.specs.Promise.{promised}
use Rattle.capture.proofs.Checking.{uneven, backward_command, backward_reply, good}
use Rattle.capture.proofs.check.Goals as goal

pub returns-then-not-is_even : goal.returns-then-not-is_even
returns-then-not-is_even c = promised (search uneven)

pub returns-then-not-is_rising : goal.returns-then-not-is_rising
returns-then-not-is_rising c = promised (search backward_command)

pub returns-then-not-is_rising-2 : goal.returns-then-not-is_rising-2
returns-then-not-is_rising-2 c = promised (search backward_reply)

pub returns : goal.returns
returns c = promised (search good)
