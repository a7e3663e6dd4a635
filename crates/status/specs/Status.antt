-- Document 01, "Packets": status packets, and the host's judgement of a reply. Document 02, request 6: the items' byte counts by kind.
use Rattle.std.specs.Prelude.{ℕ, ◌+◌, ◌-◌, ◌/◌, ◌%◌, cond, List, [], ◌∷◌, length, get_or, take, drop, ltb, eqb, Result, Ok, Err}
use Rattle.wire.specs.declared.refusal.Refusal.{Refusal}
use Rattle.wire.specs.Numbers.{done, number_of, number_by}
use Rattle.buffer.specs.Sum.{with_sum, ends_in_sum}
use Rattle.wire.specs.declared.kind.Kind.{Kind}
use Rattle.wire.specs.declared.kind.Kind.TheVariants.{Gate, Drive}
use Rattle.wire.specs.declared.refusal.Refusal.TheVariants.{Short, Long, Sum}
use Rattle.status.specs.declared.Answer.{Answer}
use Rattle.status.specs.declared.Answer.TheVariants.{Clear, Marked, Silent}

-- "status byte; the items asked for; 8-bit sum of all bytes before it"
abbrev pub status_packet : ℕ → List ℕ → List ℕ
status_packet b d = with_sum (b ∷ d)

-- "Reading a status packet under a mask: too short, 1; too long, 3; wrong sum, 4"; k is how many item bytes the mask asks for
unfoldable pub status_read : List ℕ → ℕ → Result ℕ Refusal
status_read s k =
    cond (ltb (length s) (2 + k)) (Err Short)
    (cond (ltb (2 + k) (length s)) (Err Long)
    (cond (ends_in_sum s) (Ok (get_or s 0 0))
    (Err Sum)))

-- the items start behind the status byte, which is byte 0
abbrev pub items_from : ℕ
items_from = 1

-- the items: all between status byte and sum
unfoldable pub items_part : List ℕ → List ℕ
items_part s = take (length s - 2) (drop items_from s)

-- Define Status in the LS-773 manual, the byte counts: bit 0 the inputs, bits 1 to 3 the three analog values, bit 4 the counter,
-- bit 5 device ID and version, bits 6 and 7 the captured inputs and counter
abbrev pub gate_counts : List ℕ
gate_counts = 2 ∷ 1 ∷ 1 ∷ 1 ∷ 4 ∷ 2 ∷ 2 ∷ 4 ∷ []

-- Define Status in the LS-173AP manual, the byte counts: bit 0 the position, bit 1 the A/D value, bit 2 the velocity, bit 3 the auxiliary status,
-- bit 4 the home position, bit 5 device ID and version, bit 6 the position error, bit 7 "don't care": no item
abbrev pub drive_counts : List ℕ
drive_counts = 4 ∷ 1 ∷ 2 ∷ 1 ∷ 4 ∷ 2 ∷ 2 ∷ 0 ∷ []

-- "the drive's status items": the byte counts by kind
unfoldable pub counts : Kind → List ℕ
counts Gate = gate_counts
counts Drive = drive_counts

-- all of some counts
abbrev pub all_of : List ℕ → ℕ
all_of [] = 0
all_of (n ∷ ns) = n + all_of ns

-- the larger of two totals
abbrev pub larger : ℕ → ℕ → ℕ
larger a b = cond (ltb a b) b a

-- "Let T be the total of all item counts"; "for both kinds, T being the larger"
abbrev pub T : ℕ
T = larger (all_of gate_counts) (all_of drive_counts)

-- "2 to T + 2 bytes": the longest good reply
abbrev pub most_reply : ℕ
most_reply = T + 2

-- "clear if bit 1 is 0"
abbrev pub cleared : ℕ → Answer
cleared b = cond (eqb (b / 2 % 2) 0) Clear Marked

-- "A reply is good if it has 2 to T + 2 bytes and its sum is right"; "All else counts as silence"
unfoldable pub judge_of : List ℕ → Answer
judge_of s =
    cond (ltb (length s) 2) Silent
    (cond (ltb most_reply (length s)) Silent
    (cond (ends_in_sum s) (cleared (get_or s 0 0))
    Silent))
