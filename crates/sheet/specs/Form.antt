-- Document 02, requests 1 and 2, once more as a form: what a line, a sheet and a list of packets are. `proofs/Forms`, and for lists `proofs/Lists`, join it to what is read.
use Rattle.std.specs.Prelude.{ℕ, suc, ◌+◌, ◌*◌, ◌/◌, ◌≤◌, ◌<◌, List, [], ◌∷◌, ◌++◌, ◌≡◌, length, get_or, Err}
use Rattle.wire.specs.declared.address.Address.{Address}
use Rattle.wire.specs.declared.refusal.Refusal.{Refusal}
use Rattle.packet.specs.Packet.{read_of, whole}
use Rattle.hexadecimal.specs.Hex.{space}
use Rattle.sheet.specs.Line.{hex_word}
use Rattle.sheet.specs.Sheet.{sheet_packet}
use Rattle.sheet.specs.Packets.{Found, over, packet, misread}

-- a hex digit and its value, "either case": 0 to 9, A to F, a to f by their ASCII codes
pub data DigitForm : ℕ → ℕ → Type 0 where
  decimal : (v : ℕ) → v < 10 → DigitForm (48 + v) v
  capital : (v : ℕ) → 10 ≤ v → v < 16 → DigitForm (55 + v) v
  small : (v : ℕ) → 10 ≤ v → v < 16 → DigitForm (87 + v) v

-- "One or two hex digits are read"
pub data NumeralForm : List ℕ → ℕ → Type 0 where
  one : {a v : ℕ} → DigitForm a v → NumeralForm (a ∷ []) v
  two : {a b v w : ℕ} → DigitForm a v → DigitForm b w → NumeralForm (a ∷ b ∷ []) (v * 16 + w)

-- "single spaces": one between each two
pub data NumeralsForm : List ℕ → List ℕ → Type 0 where
  last : {w : List ℕ} {b : ℕ} → NumeralForm w b → NumeralsForm w (b ∷ [])
  more : {w s d : List ℕ} {b : ℕ} → NumeralForm w b → NumeralsForm s d → NumeralsForm (w ++ space ∷ s) (b ∷ d)

-- `HEX`, a space, the numerals; "The data bytes number what the command byte says"
pub record LineForm (l d : List ℕ) : Type 0 where
  pub rest : List ℕ
  pub word : l ≡ hex_word ++ rest
  pub numerals : NumeralsForm rest d
  pub count : length d ≡ 2 + get_or d 1 0 / 16

-- some lines, and their packets back to back
pub data SheetForm : List (List ℕ) → List ℕ → Type 0 where
  end : SheetForm [] []
  next : {l d p : List ℕ} {ls : List (List ℕ)} → LineForm l d → SheetForm ls p → SheetForm (l ∷ ls) (sheet_packet d ++ p)

-- "14 for a line not of this form or count, with the line's number from 1": the first line at fault
pub data FirstFault : List (List ℕ) → ℕ → Type 0 where
  here : {l : List ℕ} {ls : List (List ℕ)} → ((d : List ℕ) → LineForm l d → ⊥) → FirstFault (l ∷ ls) 1
  later : {l d : List ℕ} {ls : List (List ℕ)} {k : ℕ} → LineForm l d → FirstFault ls k → FirstFault (l ∷ ls) (suc k)

-- a packet and nothing behind it: it reads, and ends where its bytes do
pub record PacketForm (p : List ℕ) : Type 0 where
  pub address : Address
  pub command : ℕ
  pub reads : read_of p ≡ whole address command (length p)

-- "Packets stand back to back": the bytes of a list, and what it is found to be, up to "the first packet that doesn't read"
pub data ListForm : List ℕ → Found → Type 0 where
  none : ListForm [] over
  then : {p s : List ℕ} {f : Found} → PacketForm p → ListForm s f → ListForm (p ++ s) (packet p f)
  not : {s : List ℕ} {why : Refusal} → 0 < length s → read_of s ≡ Err why → ListForm s (misread why)
