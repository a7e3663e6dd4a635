-- One digit or two.
use Rattle.script.proofs.TextLines.{number_one, number_two}
use Rattle.script.proofs.answers.put_number_end.Goals as goal

pub returns-then-n-lt10 : goal.returns-then-n-lt10
returns-then-n-lt10 c = search number_one

pub returns : goal.returns
returns c = search number_two
