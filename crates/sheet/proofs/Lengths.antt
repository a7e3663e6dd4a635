-- How much room is enough: a sheet's packets are never longer than the sheet, and a list's sheet is no longer than three times the list.
use Prim.Native.Nat.{ℕ, suc, ◌+◌, ◌*◌, ◌≤◌}
use mathlib.Core.Bool.{Bool, true, false, cond}
use mathlib.Core.List.{List, [], ◌∷◌}
use mathlib.Core.Path.{◌≡◌, refl, ap}
use native.Mathlib.Omega.{arith}
use lib.Dec.{eqb}
use lib.ListN.{length, length-append}
use Rattle.text.specs.Lines.{newline, lines_of, grown}
use Rattle.sheet.specs.Sheet.{made, sheet_packet, packets_in}
use Rattle.sheet.specs.Packets.{packets_of, sheet_of}
use Rattle.sheet.specs.Form.{one, two, NumeralsForm, last, more, LineForm, SheetForm, end, next}
use Rattle.sheet.proofs.Said.{packet_long}
use Rattle.sheet.proofs.Exports.{list_counted}
use Rattle.sheet.proofs.Forms.{sheet_formed}

-- a numeral has a character, and each but the last a space behind it
numerals_long : {s d : List ℕ} → NumeralsForm s d → 2 * length d ≤ length s + 1
numerals_long (last (one f)) = omega arith
numerals_long (last (two f g)) = omega arith
numerals_long (more (one f) r) = omega (arith, numerals_long r)
numerals_long (more (two f g) r) = omega (arith, numerals_long r)

-- a packet is no longer than its line
line_room : {l d : List ℕ} → LineForm l d → length (sheet_packet d) ≤ length l
line_room {l} {d} f = omega (arith, f.count, packet_long d (omega (arith, f.count)), numerals_long f.numerals, ap (λ (x : List ℕ). length x) f.word)

-- the characters of some lines, without their newlines
abbrev characters : List (List ℕ) → ℕ
characters [] = 0
characters (l ∷ ls) = length l + characters ls

grown_characters : (b : ℕ) (ls : List (List ℕ)) → characters (grown b ls) ≡ suc (characters ls)
grown_characters b [] = refl
grown_characters b (l ∷ ls) = omega arith

lines_characters : (s : List ℕ) → characters (lines_of s) ≤ length s
lines_characters [] = omega arith
lines_characters (b ∷ s) = by_newline (eqb b newline) (lines_characters s)
  where
    by_newline : (t : Bool) → characters (lines_of s) ≤ length s → characters (cond t ([] ∷ lines_of s) (grown b (lines_of s))) ≤ suc (length s)
    by_newline true h = omega arith
    by_newline false h = omega (arith, grown_characters b (lines_of s))

sheet_room : {ls : List (List ℕ)} {p : List ℕ} → SheetForm ls p → length p ≤ characters ls
sheet_room end = omega arith
sheet_room (next {d = d} {p = p} f g) = omega (arith, line_room f, sheet_room g, length-append (sheet_packet d) p)

-- so a buffer as long as the sheet has room for its packets
pub import_short : (s p : List ℕ) → packets_in (lines_of s) ≡ made p → length p ≤ length s
import_short s p e = omega (arith, sheet_room (sheet_formed (lines_of s) p e), lines_characters s)

-- and one three times as long as the list for its sheet
pub export_short : (s t : List ℕ) → sheet_of (packets_of s) ≡ made t → length t ≤ 3 * length s
export_short s t e = omega (arith, (list_counted s t e).long.exact)
