-- Serves private contracts: a line read numeral by numeral; lengths known before anything is written; what is then written.
use Rattle.std.specs.Prelude.{ℕ, ◌+◌, ◌*◌, ◌/◌, ◌≤◌, cond, List, ltb, eqb, length, get_or, Result, Ok, Err, Option, Some, None}
use Rattle.wire.specs.declared.refusal.Refusal.{Refusal}
use Rattle.std.proofs.lemmas.List.Edits.{sets}
use Rattle.wire.specs.declared.refusal.Refusal.TheVariants.{Room}
use Rattle.text.specs.Lines.{lines_of}
use Rattle.hexadecimal.specs.Hex.{space}
use Rattle.hexadecimal.specs.Gathering.{Gathered, read_pairs}
use Rattle.sheet.specs.declared.line.Numeral.{Numeral}
use Rattle.sheet.specs.declared.line.Numeral.TheVariants.{Last, More}
use Rattle.sheet.specs.declared.importing.ImportError.{ImportError}
use Rattle.sheet.specs.declared.importing.ImportError.TheVariants as wrong
use Rattle.sheet.specs.Line.{either_digit, numerals_of, numeral_bytes, right_count, line_in}
use Rattle.sheet.specs.Sheet.{Made, made, fault, packets_in}
use Rattle.sheet.specs.Packets.{Found, over, packet, misread, packets_of, sheet_of}

-- ---- a line

-- two digits of these values, then the line's end or a space
unfoldable pub two_numeral : ℕ → ℕ → List ℕ → Option Numeral
two_numeral high low s =
    cond (ltb 15 low) None
    (cond (ltb (length s) 3) (Some (Last (high * 16 + low)))
    (cond (eqb (get_or s 2 0) space) (Some (More (high * 16 + low) 3)) None))

-- a digit of this value, then the line's end, a space or a second digit
unfoldable pub numeral_by : ℕ → List ℕ → Option Numeral
numeral_by high s =
    cond (ltb 15 high) None
    (cond (ltb (length s) 2) (Some (Last high))
    (cond (eqb (get_or s 1 0) space) (Some (More high 2))
    (two_numeral high (either_digit (get_or s 1 0)) s)))

-- the numeral that some text starts with
unfoldable pub read_numeral : List ℕ → Option Numeral
read_numeral s = cond (ltb (length s) 1) None (numeral_by (either_digit (get_or s 0 0)) s)

-- the bytes of numerals, of as many as they count, and of a line, gathered in a buffer
abbrev pub read_numerals : List ℕ → List ℕ → Gathered
read_numerals s out = read_pairs (numeral_bytes (numerals_of s)) 0 out

abbrev pub counted_by : ℕ → ℕ → Option ℕ
counted_by n head = cond (eqb n (2 + head / 16)) (Some n) None

abbrev pub read_counted : List ℕ → List ℕ → Gathered
read_counted s out = read_pairs (right_count (numeral_bytes (numerals_of s))) 0 out

abbrev pub read_line : List ℕ → List ℕ → Gathered
read_line l out = read_pairs (line_in l) 0 out

-- ---- lengths

-- behind so many lines, whose packets have n bytes
abbrev pub import_behind : ℕ → ℕ → ℕ → Made ℕ → Result ℕ ImportError
import_behind passed n room (made p) = cond (ltb room (n + length p)) (Err (wrong.Refused Room)) (Ok (n + length p))
import_behind passed n room (fault k) = Err (wrong.Line (passed + k))

-- what importing answers, but for a sheet that is too long
abbrev pub import_answer : Made ℕ → ℕ → Result ℕ ImportError
import_answer m room = import_behind 0 0 room m

-- behind n packets that read
abbrev pub count_behind : ℕ → Found → Result ℕ Refusal
count_behind n over = Ok n
count_behind n (packet p f) = count_behind (n + 1) f
count_behind n (misread why) = Err why

-- how many packets there are, or why the first that doesn't read is refused
abbrev pub count_packets : Found → Result ℕ Refusal
count_packets f = count_behind 0 f

-- ---- what is written

-- it has room from `at` on
abbrev pub HasRoom : {F : Type 0} → Made F → ℕ → ℕ → Type 0
HasRoom (made p) at room = at + length p ≤ room
HasRoom (fault f) at room = ⊥

-- it stands from `at` on
abbrev pub made_from : {F : Type 0} → Made F → ℕ → List ℕ → List ℕ
made_from (made p) at out = sets out at p
made_from (fault f) at out = out

-- a sheet's packets, from the start of the buffer on
abbrev pub sheet_packets : List ℕ → List ℕ → List ℕ
sheet_packets s out = made_from (packets_in (lines_of s)) 0 out

-- the lines of a list of packets, likewise
abbrev pub sheet_lines : List ℕ → List ℕ → List ℕ
sheet_lines s out = made_from (sheet_of (packets_of s)) 0 out
