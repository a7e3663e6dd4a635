-- Document 02, request 1: a sheet imported. "Packets stand back to back; a newline ends each line, though the last line read may lack it".
use Rattle.std.specs.Prelude.{ℕ, suc, cond, List, [], ◌∷◌, ◌++◌, ltb, length, get_or, drop, Result, Ok, Err}
use Rattle.wire.specs.Promise.{Outcome}
use Rattle.wire.specs.Numbers.{done, number_of}
use Rattle.wire.specs.declared.refusal.Refusal.TheVariants.{Range, Room, Line}
use Rattle.packet.specs.Build.{packet_with}
use Rattle.text.specs.Lines.{lines_of}
use Rattle.hexadecimal.specs.Hex.{Content, bytes, malformed}
use Rattle.sheet.specs.Line.{line_in}
use Rattle.sheet.specs.declared.importing.ImportError.{ImportError}
use Rattle.sheet.specs.declared.importing.ImportError.TheVariants as wrong

-- what a sheet or a list of packets comes to: some bytes, or what is at fault
pub data Made (F : Type 0) : Type 0 where
  made : List ℕ → Made F
  fault : F → Made F

-- the packet of a line: its address, command byte and data bytes, between header and sum
abbrev pub sheet_packet : List ℕ → List ℕ
sheet_packet d = packet_with (get_or d 0 0) (get_or d 1 0) (drop 2 d)

-- the first line's packet, and the packets of the lines behind it; "with the line's number from 1"
abbrev pub on_line : Content → Made ℕ → Made ℕ
on_line (bytes d) (made p) = made (sheet_packet d ++ p)
on_line (bytes d) (fault k) = fault (suc k)
on_line malformed rest = fault 1

-- the packets of some lines, or the number of the first that isn't "of this form or count"
unfoldable pub packets_in : List (List ℕ) → Made ℕ
packets_in [] = made []
packets_in (l ∷ ls) = on_line (line_in l) (packets_in ls)

-- "up to 64 KiB"
abbrev pub most_text : ℕ
most_text = 65536

-- a refusal leaves the buffer as it stood
abbrev pub import_refused : Result ℕ ImportError → List ℕ → Outcome (Result ℕ ImportError) (List ℕ)
import_refused why out = record { answer = why; left = out }

-- "14 .. with the line's number", "then 5"; the packets go to the start of the buffer, the rest stays
abbrev pub import_made : Made ℕ → List ℕ → Outcome (Result ℕ ImportError) (List ℕ)
import_made (made p) out =
    cond (ltb (length out) (length p)) (import_refused (Err (wrong.Refused Room)) out)
    (record { answer = Ok (length p); left = p ++ drop (length p) out })
import_made (fault k) out = import_refused (Err (wrong.Line k)) out

-- "6 for a longer sheet; then 14 ..; then 5"
unfoldable pub import_of : List ℕ → List ℕ → Outcome (Result ℕ ImportError) (List ℕ)
import_of s out = cond (ltb most_text (length s)) (import_refused (Err (wrong.Refused Range)) out) (import_made (packets_in (lines_of s)) out)

-- the number of what importing answers
abbrev pub imported_number : Result ℕ ImportError → ℕ
imported_number (Ok n) = done
imported_number (Err (wrong.Refused why)) = number_of why
imported_number (Err (wrong.Line k)) = number_of Line
