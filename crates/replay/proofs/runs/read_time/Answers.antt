-- By how many digits there are, and by the first.
use Rattle.replay.proofs.Digits.{time_none, time_one, time_zero, time_more}
use Rattle.replay.proofs.runs.read_time.Goals as goal

pub returns-then-s-lt1 : goal.returns-then-s-lt1
returns-then-s-lt1 c = search time_none

pub returns-then-s-lt2 : goal.returns-then-s-lt2
returns-then-s-lt2 c = search time_one

pub returns-then-s-eq48 : goal.returns-then-s-eq48
returns-then-s-eq48 c = search time_zero

pub returns : goal.returns
returns c = search time_more
