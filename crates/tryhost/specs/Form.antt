-- Whether a line of the host's calls is of its form; "a line that is not of its form .. answers `FF` and changes nothing".
use Rattle.std.specs.Prelude.{ℕ, ◌+◌, Bool, true, false, cond, not, ◌&&◌, ◌||◌, List, ltb, eqb, length, drop}
use Rattle.command.specs.Role.{role_of, is_placing, is_pacing}
use Rattle.fields.specs.Field.{fields_byte}
use Rattle.fields.specs.Kind.{are_kinds}
use Rattle.fields.specs.Lending.{most_room, is_lending}
use Rattle.state.specs.Order.{is_order, read_command}
use Rattle.state.specs.State.{is_state}

-- the commands that a ready session takes: every one but Set Address and Set Baud Rate, which have lines of their own; "33 never takes 1A"
unfoldable pub is_ready_order : List ℕ → Bool
is_ready_order s = is_order s && not (is_placing (role_of (read_command s)) || is_pacing (role_of (read_command s)))

-- "k group leader", a flag
unfoldable pub is_regroup : List ℕ → Bool
is_regroup s = eqb (length s) 3 && ltb (fields_byte s 2) 2

-- what stands behind room and divisor: nothing for "next" and "ask", an order, "k group leader", "group new"
unfoldable pub is_formed : ℕ → List ℕ → Bool
is_formed kind s =
    cond (eqb kind 0x31) (ltb (length s) 1)
    (cond (eqb kind 0x32) (ltb (length s) 1)
    (cond (eqb kind 0x33) (is_ready_order s)
    (cond (eqb kind 0x34) (is_regroup s)
    (cond (eqb kind 0x39) (eqb (length s) 2) false))))

-- a call that sends: "room divisor .."
unfoldable pub is_sending : ℕ → List ℕ → Bool
is_sending kind s = is_lending s 2 most_room && is_formed kind (drop 2 s)

-- "n KIND*n"; "exactly n kinds also where n is 0 or above 31"
unfoldable pub is_power_up : List ℕ → Bool
is_power_up s = eqb (length s) (1 + fields_byte s 0) && are_kinds (drop 1 s)

-- a call that lends nothing: "30 n KIND*n", "35 bytes..", "36", "38 STATE"
unfoldable pub is_call : ℕ → List ℕ → Bool
is_call kind s =
    cond (eqb kind 0x30) (is_power_up s)
    (cond (eqb kind 0x35) true
    (cond (eqb kind 0x36) (ltb (length s) 1)
    (cond (eqb kind 0x38) (is_state s) false)))
