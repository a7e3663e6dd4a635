-- Each exit is one law on what is left of the two captures.
use Rattle.capture.proofs.Dues.{command_first, reply_first, command_alone, reply_alone, none_left}
use Rattle.capture.proofs.due.Goals as goal

pub returns-then-sent-came : goal.returns-then-sent-came
returns-then-sent-came c = command_first _ _ c.args.at c.in-Some-Some.sent c.in-Some-Some.came c.in-Some-Some.ensures.lookup c.in-Some-Some.ensures'.lookup c.if-sent-came.true

pub returns-else-sent-came : goal.returns-else-sent-came
returns-else-sent-came c = reply_first _ _ c.args.at c.in-Some-Some.sent c.in-Some-Some.came c.in-Some-Some.ensures.lookup c.in-Some-Some.ensures'.lookup c.if-sent-came.false

pub returns-in-Some-None : goal.returns-in-Some-None
returns-in-Some-None c = command_alone _ _ c.args.at c.in-Some-None.field-0-0 c.in-Some-None.ensures.lookup c.in-Some-None.ensures'.lookup

pub returns-in-None-Some : goal.returns-in-None-Some
returns-in-None-Some c = reply_alone _ _ c.args.at c.in-None-Some.field-0-1 c.in-None-Some.ensures.lookup c.in-None-Some.ensures'.lookup

pub returns-in-None-None : goal.returns-in-None-None
returns-in-None-None c = none_left _ _ c.args.at c.in-None-None.ensures.lookup c.in-None-None.ensures'.lookup
