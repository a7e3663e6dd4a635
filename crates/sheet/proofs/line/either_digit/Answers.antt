-- Each exit by its law.
use Rattle.sheet.proofs.Digits.{none_below, none_above, none_first, none_second, some_digit}
use Rattle.sheet.proofs.line.either_digit.Goals as goal

pub returns-then-b-lt48 : goal.returns-then-b-lt48
returns-then-b-lt48 c = search none_below

pub returns-then-b : goal.returns-then-b
returns-then-b c = search none_first

pub returns-then-b-2 : goal.returns-then-b-2
returns-then-b-2 c = search none_second

pub returns-then-b-gt102 : goal.returns-then-b-gt102
returns-then-b-gt102 c = search none_above

pub returns : goal.returns
returns c = search some_digit
