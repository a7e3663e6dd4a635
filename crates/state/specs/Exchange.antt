-- EXCHANGE: "00", or "01 divisor kind target FAMILY command-byte data..".
use Rattle.std.specs.Prelude.{ℕ, ◌+◌, Bool, true, false, cond, List, ltb, eqb, drop}
use Rattle.session.specs.declared.Exchange.{Exchange}
use Rattle.session.specs.declared.Exchange.TheVariants.{Idle, Waiting}
use Rattle.fields.specs.declared.answer.Answer.{Answer}
use Rattle.fields.specs.Field.{fields_byte}
use Rattle.fields.specs.Answer.{answer_put}
use Rattle.state.specs.Order.{data_count, is_order, read_target, read_command, put_order}

-- how many bytes the exchange at the start of s has
unfoldable pub exchange_length : List ℕ → ℕ
exchange_length s = cond (ltb (fields_byte s 0) 1) 1 (6 + data_count (drop 2 s))

-- s is an exchange
unfoldable pub is_exchange : List ℕ → Bool
is_exchange s = cond (eqb (fields_byte s 0) 0) true (cond (eqb (fields_byte s 0) 1) (is_order (drop 2 s)) false)

-- the exchange that s is, "with the divisor that it was sent at"
unfoldable pub read_exchange : List ℕ → Exchange
read_exchange s = cond (ltb (fields_byte s 0) 1) Idle (Waiting (fields_byte s 1) (read_target (drop 2 s)) (read_command (drop 2 s)))

-- an exchange more
abbrev pub put_exchange : Answer → Exchange → Answer
put_exchange a Idle = answer_put a 0
put_exchange a (Waiting at to c) = put_order (answer_put (answer_put a 1) at) to c
