-- What a line of the host's calls makes: its answer, and the session that is kept for the next line.
use Rattle.std.specs.Prelude.{ℕ, cond, List, [], ltb, eqb, length, take, drop, Ok, None}
use Rattle.wire.specs.Promise.{Outcome}
use Rattle.wire.specs.Numbers.{done}
use Rattle.fields.specs.declared.answer.Answer.{Answer}
use Rattle.fields.specs.Field.{fields_byte}
use Rattle.fields.specs.Kind.{read_kinds}
use Rattle.fields.specs.Answer.{fields_nothing, answer_put, malformed_of, numbered_of}
use Rattle.fields.specs.Lending.{most_room, filled_of, room_of}
use Rattle.session.specs.declared.Session.{Session}
use Rattle.session.specs.declared.Step.{Step}
use Rattle.session.specs.Session.{step_number}
use Rattle.start.specs.Start.{start_power_up}
use Rattle.walk.specs.Walk.{next_of, ask_of}
use Rattle.host.specs.Calls.{order_of, regroup_of, set_baud_rate_of}
use Rattle.reports.specs.Report.{report_of, silence_of}
use Rattle.state.specs.Order.{read_target, read_command}
use Rattle.state.specs.State.{read_state, put_state}
use Rattle.tryhost.specs.declared.Tried.{Tried}
use Rattle.tryhost.specs.Form.{is_call, is_sending}

-- an answer, and the session after it
unfoldable pub with_session : Answer → Session → Tried
with_session a s = record { answer = a; session = s }

-- "NN buffer"; "NN is the call's number"
unfoldable pub tried_by : Step → List ℕ → Tried
tried_by step lent = with_session (numbered_of (step_number step) lent) step.session

-- "34 room divisor k group leader": regroup, at the divisor and by what stands behind it
abbrev pub tryhost_regroup : Session → ℕ → List ℕ → List ℕ → Outcome Step (List ℕ)
tryhost_regroup s at args = regroup_of s at (record { 0 = fields_byte args 0 }) (record { 0 = fields_byte args 1 }) (eqb (fields_byte args 2) 1)

-- "39 room divisor group new": Set Baud Rate to a group
abbrev pub tryhost_set_baud_rate : Session → ℕ → List ℕ → List ℕ → Outcome Step (List ℕ)
tryhost_set_baud_rate s at args = set_baud_rate_of s at (record { 0 = fields_byte args 0 }) (fields_byte args 1)

-- 31 next, 32 ask, 33 a command, 34 regroup, 39 Set Baud Rate, at the divisor and by what stands behind it
unfoldable pub send_of : Session → (kind at : ℕ) → List ℕ → List ℕ → Outcome Step (List ℕ)
send_of s kind at args out =
    cond (eqb kind 0x31) (next_of s at out)
    (cond (eqb kind 0x32) (ask_of s at out)
    (cond (eqb kind 0x33) (order_of s at (read_target args) (read_command args) out)
    (cond (eqb kind 0x34) (tryhost_regroup s at args out)
    (tryhost_set_baud_rate s at args out))))

-- "the answer shows all of it afterwards"
unfoldable pub send_lent : Session → (kind at : ℕ) → List ℕ → List ℕ → Tried
send_lent s kind at args out = tried_by (send_of s kind at args out).answer (send_of s kind at args out).left

-- "A lent buffer of `room` bytes .. is filled with 55 before the call"
unfoldable pub lend_of : Session → ℕ → List ℕ → Tried
lend_of s kind args = send_lent s kind (fields_byte args 1) (drop 2 args) (take (room_of args most_room) filled_of)

-- "30 n KIND*n": power-up
abbrev pub tryhost_power_up : Session → List ℕ → Step
tryhost_power_up s args = start_power_up s (fields_byte args 0) (read_kinds (drop 1 args))

-- "38 STATE": hand in a session made by hand
abbrev pub handed_in : List ℕ → Step
handed_in args = record { end = Ok None; session = read_state args }

-- 30 power-up, 35 report, 36 silence, 38 hand in: these lend nothing
unfoldable pub call_of : Session → ℕ → List ℕ → Step
call_of s kind args =
    cond (eqb kind 0x30) (tryhost_power_up s args)
    (cond (eqb kind 0x35) (report_of s args)
    (cond (eqb kind 0x36) (silence_of s)
    (handed_in args)))

-- "37": "00 STATE"
unfoldable pub show_of : Session → List ℕ → Answer
show_of s args = cond (ltb 0 (length args)) malformed_of (put_state (answer_put fields_nothing done) s)

-- what a line that is no call is answered
unfoldable pub answer_to : Session → ℕ → List ℕ → Answer
answer_to s kind args = cond (eqb kind 0x37) (show_of s args) malformed_of

-- what a line makes, by its first byte and those behind it
unfoldable pub attempt_of : Session → ℕ → List ℕ → Tried
attempt_of s kind args =
    cond (is_call kind args) (tried_by (call_of s kind args) [])
    (cond (is_sending kind args) (lend_of s kind args)
    (with_session (answer_to s kind args) s))
