-- Document 02, requests 1 and 2: packets exported. "Packets stand back to back"; "export writes two capitals".
use Rattle.std.specs.Prelude.{ℕ, zero, suc, ◌-◌, List, [], ◌∷◌, ◌++◌, length, take, drop, Result, Err, Ok}
use Rattle.packet.specs.declared.Framed.{Framed}
use Rattle.wire.specs.Promise.{Outcome}
use Rattle.wire.specs.declared.refusal.Refusal.{Refusal}
use Rattle.buffer.specs.Buffer.{refused, written}
use Rattle.packet.specs.Packet.{read_of}
use Rattle.hexadecimal.specs.Hex.{hex_line}
use Rattle.sheet.specs.Line.{hex_word}
use Rattle.sheet.specs.Sheet.{Made, made, fault}

-- what a list of packets is found to be: each that reads, in order, up to the end of the list or to one that doesn't read
pub data Found : Type 0 where
  over : Found
  packet : List ℕ → Found → Found
  misread : Refusal → Found

-- by what reading says of the first: its own bytes, and what is found from where it ends
abbrev pub found_by : List ℕ → Result Framed Refusal → (ℕ → Found) → Found
found_by s (Ok f) from = packet (take f.end s) (from f.end)
found_by s (Err why) from = misread why

-- where k bytes of the packet before are still to come
abbrev pub packets_from : ℕ → List ℕ → Found
packets_from k [] = over
packets_from zero (b ∷ s) = found_by (b ∷ s) (read_of (b ∷ s)) (λ end. packets_from (end - 1) s)
packets_from (suc k) (b ∷ s) = packets_from k s

-- "Packets stand back to back": the next begins where reading says that the one before ends
unfoldable pub packets_of : List ℕ → Found
packets_of s = packets_from 0 s

-- "no header, no sum"
abbrev pub bare_of : List ℕ → List ℕ
bare_of p = take (length p - 2) (drop 1 p)

-- the line of a packet, with its newline
abbrev pub sheet_line : List ℕ → List ℕ
sheet_line p = hex_word ++ hex_line (bare_of p)

-- a packet's line, and the lines of the packets behind it
abbrev pub ahead : List ℕ → Made Refusal → Made Refusal
ahead p (made t) = made (sheet_line p ++ t)
ahead p (fault why) = fault why

-- the sheet of some packets; "1, 2 or 4 for the first packet that doesn't read"
unfoldable pub sheet_of : Found → Made Refusal
sheet_of over = made []
sheet_of (packet p f) = ahead p (sheet_of f)
sheet_of (misread why) = fault why

-- "then 5"
abbrev pub export_made : Made Refusal → List ℕ → Outcome (Result ℕ Refusal) (List ℕ)
export_made (made t) out = written t out
export_made (fault why) out = refused why out

unfoldable pub export_of : List ℕ → List ℕ → Outcome (Result ℕ Refusal) (List ℕ)
export_of s out = export_made (sheet_of (packets_of s)) out
