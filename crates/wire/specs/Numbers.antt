-- Document 01, "Numbers returned", and the later numbers of document 02: a refusal's number stands only here.
use Rattle.std.specs.Prelude.{ℕ, Result, Ok, Err}
use Rattle.wire.specs.declared.refusal.Refusal.{Refusal}
use Rattle.wire.specs.declared.refusal.Refusal.TheVariants as refusal

-- "done"
abbrev pub done : ℕ
done = 0

-- the refusals of the table; from 14 on those of document 02, request by request
abbrev pub number_of : Refusal → ℕ
number_of refusal.Short = 1
number_of refusal.Header = 2
number_of refusal.Long = 3
number_of refusal.Sum = 4
number_of refusal.Room = 5
number_of refusal.Range = 6
number_of refusal.Busy = 7
number_of refusal.Idle = 8
number_of refusal.NotDue = 9
number_of refusal.NoNode = 10
number_of refusal.Led = 11
number_of refusal.Closed = 12
number_of refusal.Line = 14
number_of refusal.Uneven = 15
number_of refusal.Backward = 16
number_of refusal.Lacked = 17
number_of refusal.Divisor = 18
number_of refusal.Answerable = 19

-- the number of what a call answers: "done", or the refusal's
abbrev pub number_by : {A : Type 0} → Result A Refusal → ℕ
number_by (Ok a) = done
number_by (Err why) = number_of why

-- "several nodes replied (not a refusal)"
abbrev pub collision : ℕ
collision = 13

-- "n or table length not 1 to 31"
abbrev pub most_nodes : ℕ
most_nodes = 31
