-- There and back: an exported packet imports as itself, and importing and exporting a sheet twice equals once.
use Rattle.std.specs.Prelude.{Result, Ok, Err}
use Prim.Native.Nat.{ℕ, ◌+◌, ◌-◌, ◌*◌, ◌/◌, ◌%◌, ◌≤◌, ◌<◌}
use mathlib.Core.Bool.{Bool, true, false, cond}
use mathlib.Core.List.{List, [], ◌∷◌, ◌++◌, append_assoc, append-nil}
use mathlib.Core.Path.{◌≡◌, refl, sym, ap, ◌∙◌, subst}
use native.Mathlib.Omega.{arith}
use native.Mathlib.Nat.{not-suc-le-zero}
use lib.Dec.{ltb}
use lib.ListN.{length, take, drop, get_or, length-take, length-drop}
use lib.Seq.{take_at, take-length, take-append_seam}
use borrow.Author.Tests.{le-ltb}
use Rattle.wire.specs.Promise.{Outcome}
use Rattle.wire.specs.Address.{address_of, byte_of}
use Rattle.wire.specs.declared.refusal.Refusal.{Refusal}
use Rattle.wire.specs.declared.refusal.Refusal.TheVariants.{Range, Room}
use Rattle.wire.proofs.Impossible.{impossible}
use Rattle.buffer.specs.Sum.{sum_of, with_sum}
use Rattle.buffer.specs.Change.{AllBytes}
use Rattle.buffer.specs.Buffer.{written}
use Rattle.buffer.proofs.Bytes.{take_bytes, drop_bytes}
use Rattle.buffer.proofs.Sums.{length_with_sum}
use Rattle.buffer.proofs.Writing.{wrote, wrote_not, written_wrote}
use Rattle.packet.specs.Packet.{data_part}
use Rattle.packet.specs.Build.{head_of, packet_of}
use Rattle.packet.proofs.Packets.{read_says, read_framing, data_length, accepted_built, built_length, built_reads}
use Rattle.text.specs.Lines.{newline, lines_of}
use Rattle.text.proofs.Meaning.{Plain, lines_ended}
use Rattle.hexadecimal.specs.Digits.{character_of}
use Rattle.hexadecimal.specs.Hex.{hex_pair, hex_rest, hex_text, hex_line, bytes}
use Rattle.sheet.specs.Line.{hex_word, line_in}
use Rattle.sheet.specs.Sheet.{Made, made, fault, sheet_packet, packets_in, most_text, import_refused, import_made, import_of}
use Rattle.sheet.specs.Packets.{Found, over, packet, packets_of, bare_of, sheet_line, ahead, sheet_of, export_made, export_of}
use Rattle.sheet.specs.Form.{NumeralForm, two, NumeralsForm, last, more, SheetForm, end, next, PacketForm, ListForm, none, then, not}
use Rattle.sheet.specs.declared.importing.ImportError.{ImportError}
use Rattle.sheet.specs.declared.importing.ImportError.TheVariants as wrong
use Rattle.sheet.proofs.Said.{Said, line_says, said_some, packet_says}
use Rattle.sheet.proofs.Lists.{list_formed, form_list}
use Rattle.sheet.proofs.Forms.{value_form, form_line, sheet_formed}

-- ---- a packet that reads

-- header, its bytes, their sum; and the bytes are as many as the second of them says
record Whole (p : List ℕ) : Type 0 where
  pub inside : List ℕ
  pub shape : p ≡ 0xAA ∷ with_sum inside
  pub count : length inside ≡ 2 + get_or inside 1 0 / 16

whole : (p : List ℕ) → PacketForm p → Whole p
whole p h =
    let f = read_framing p h.address h.command (length p) h.reads in
    let s : p ≡ packet_of (byte_of h.address) h.command (data_part p) = sym (take-length p) ∙ accepted_built p h.address h.command (length p) h.reads in
    let k : length p ≡ 4 + length (data_part p) = sym (data_length p h.address h.command (length p) (read_says p h.address h.command (length p) h.reads).0) in
    let n : h.command < 16 = omega (arith, f.command) in
    record { inside = byte_of h.address ∷ head_of h.command (data_part p) ∷ data_part p; shape = s; count = omega arith }

-- "no header, no sum"
bare_inside : (d : List ℕ) → bare_of (0xAA ∷ with_sum d) ≡ d
bare_inside d =
    let z : length (0xAA ∷ with_sum d) - 2 ≡ length d = omega (arith, length_with_sum d) in
    ap (λ (n : ℕ). take n (with_sum d)) z ∙ take-append_seam d _

-- ---- its line: the numerals are its bytes

pair_form : (b : ℕ) → b < 256 → NumeralForm (hex_pair b) b
pair_form b h =
    let z : b / 16 * 16 + b % 16 ≡ b = omega arith in
    subst (λ (n : ℕ). NumeralForm (hex_pair b) n) z (two (value_form (b / 16) (omega arith)) (value_form (b % 16) (omega arith)))

text_form : (b : ℕ) (d : List ℕ) → b < 256 → AllBytes d → NumeralsForm (hex_text (b ∷ d)) (b ∷ d)
unfolding hex_rest
text_form b [] h k = last (pair_form b h)
text_form b (c ∷ d) h k = more (pair_form b h) (text_form c d k.0 k.1)

numerals_of_lem : (d : List ℕ) → 1 ≤ length d → AllBytes d → NumeralsForm (hex_text d) d
numerals_of_lem [] h k = absurd (not-suc-le-zero h)
numerals_of_lem (b ∷ d) h k = text_form b d k.0 k.1

-- the line without its newline says the bytes
line_back : (d : List ℕ) → AllBytes d → length d ≡ 2 + get_or d 1 0 / 16 → line_in (hex_word ++ hex_text d) ≡ bytes d
line_back d k c = form_line (record { rest = hex_text d; word = refl; numerals = numerals_of_lem d (omega arith) k; count = c })

-- ---- no newline in it

char_plain : (v : ℕ) → character_of v ≡ newline → ⊥
unfolding character_of
char_plain v e = by_test (ltb v 10) e
  where
    by_test : (t : Bool) → cond t (48 + v) (55 + v) ≡ newline → ⊥
    by_test true e = omega arith
    by_test false e = omega arith

rest_plain : (d : List ℕ) → Plain (hex_rest d)
unfolding hex_rest
rest_plain [] = tt
rest_plain (b ∷ d) = (λ e. omega arith, (char_plain (b / 16), (char_plain (b % 16), rest_plain d)))

text_plain : (d : List ℕ) → Plain (hex_text d)
text_plain [] = tt
text_plain (b ∷ d) = (char_plain (b / 16), (char_plain (b % 16), rest_plain d))

word_plain : (l : List ℕ) → Plain l → Plain (hex_word ++ l)
word_plain l h = (λ e. omega arith, (λ e. omega arith, (λ e. omega arith, (λ e. omega arith, h))))

-- ---- an exported line is one line

ended : (w x t : List ℕ) → (w ++ (x ++ (newline ∷ []))) ++ t ≡ (w ++ x) ++ newline ∷ t
ended w x t = simp append_assoc

line_first : (d t : List ℕ) → lines_of ((hex_word ++ hex_line d) ++ t) ≡ (hex_word ++ hex_text d) ∷ lines_of t
line_first d t = ap lines_of (ended hex_word (hex_text d) t) ∙ lines_ended (hex_word ++ hex_text d) t (word_plain (hex_text d) (text_plain d))

-- ---- "An exported packet imports as itself"

append_bytes : (p s : List ℕ) → AllBytes (p ++ s) → AllBytes p × AllBytes s
append_bytes [] s h = (tt, h)
append_bytes (b ∷ p) s h = let k = append_bytes p s h.1 in ((h.0, k.0), k.1)

-- a packet's line, in front of lines that import
line_imports : (p s x : List ℕ) → PacketForm p → AllBytes p → packets_in (lines_of x) ≡ made s → packets_in (lines_of (sheet_line p ++ x)) ≡ made (p ++ s)
unfolding packets_in
line_imports p s x h b e =
    let w = whole p h in
    let n : bare_of p ≡ w.inside = ap bare_of w.shape ∙ bare_inside w.inside in
    let k : AllBytes (bare_of p) = take_bytes (length p - 2) (drop 1 p) (drop_bytes 1 p b) in
    let i : line_in (hex_word ++ hex_text w.inside) ≡ bytes w.inside = line_back w.inside (rw n at k) w.count in
    let q : sheet_packet w.inside ≡ p = packet_says w.inside (omega (arith, w.count)) ∙ sym w.shape in
    ap (λ (y : List ℕ). packets_in (lines_of ((hex_word ++ hex_line y) ++ x))) n
    ∙ ap packets_in (line_first w.inside x)
    ∙ rw (i, e) (ap (λ (y : List ℕ). made (y ++ s)) q)

lines_import : {s : List ℕ} {f : Found} → ListForm s f → AllBytes s → (t : List ℕ) → sheet_of f ≡ made t → packets_in (lines_of t) ≡ made s
unfolding packets_in sheet_of
lines_import none b t e = let z : t ≡ [] = cc in rw z
lines_import (not h r) b t e = impossible cc
lines_import (then {p = p} {s = s} {f = f} h l) b t e = by_rest (sheet_of f) (λ x r. lines_import l (append_bytes p s b).1 x r) e
  where
    by_rest : (m : Made Refusal) → ((x : List ℕ) → m ≡ made x → packets_in (lines_of x) ≡ made s) → ahead p m ≡ made t → packets_in (lines_of t) ≡ made (p ++ s)
    by_rest (fault why) ih e = impossible cc
    by_rest (made x) ih e =
        let z : t ≡ sheet_line p ++ x = cc in
        rw z (line_imports p s x h (append_bytes p s b).0 (ih x refl))

pub exported_imports : (s t : List ℕ) → AllBytes s → sheet_of (packets_of s) ≡ made t → packets_in (lines_of t) ≡ made s
exported_imports s t b e = lines_import (list_formed s) b t e

-- ---- what is imported is packets that read, back to back

bytes_append : (p s : List ℕ) → AllBytes p → AllBytes s → AllBytes (p ++ s)
bytes_append [] s h k = k
bytes_append (b ∷ p) s h k = (h.0, bytes_append p s h.1 k)

packet_bytes : (d : List ℕ) → Said d → AllBytes (sheet_packet d)
packet_bytes d s = subst AllBytes (sym (packet_says d (said_some d s))) (omega arith, bytes_append d (sum_of d ∷ []) s.small (omega arith, tt))

packet_form : (d : List ℕ) → Said d → PacketForm (sheet_packet d)
packet_form d s =
    let h : head_of (get_or d 1 0 % 16) (drop 2 d) ≡ get_or d 1 0 = omega (arith, s.count, length-drop 2 d) in
    let r = built_reads (get_or d 0 0) (get_or d 1 0 % 16) (drop 2 d) [] (omega arith) in
    let l = built_length (get_or d 0 0) (get_or d 1 0 % 16) (drop 2 d) in
    record { address = address_of (get_or d 0 0); command = get_or d 1 0 % 16; reads = rw (rw h at l) (rw (append-nil, h) at r) }

-- its packets, and the sheet that they are exported as
record Packed (p : List ℕ) : Type 0 where
  pub found : Found
  pub list : ListForm p found
  pub sheet : List ℕ
  pub makes : sheet_of found ≡ made sheet
  pub small : AllBytes p

packed : {ls : List (List ℕ)} {p : List ℕ} → SheetForm ls p → Packed p
unfolding sheet_of
packed end = record { found = over; list = none; sheet = []; makes = refl; small = tt }
packed (next {l = l} {d = d} {p = p} f g) =
    let s = line_says l d (form_line f) in
    let k = packed g in
    record {
      found = packet (sheet_packet d) k.found;
      list = then (packet_form d s) k.list;
      sheet = sheet_line (sheet_packet d) ++ k.sheet;
      makes = ap (ahead (sheet_packet d)) k.makes;
      small = bytes_append (sheet_packet d) p (packet_bytes d s) k.small;
    }

-- ---- the calls

-- a sheet within 64 KiB whose packets have room
import_made_lem : (t p room : List ℕ) → length t ≤ most_text → packets_in (lines_of t) ≡ made p → length p ≤ length room
    → import_of t room ≡ record { answer = Ok (length p); left = p ++ drop (length p) room }
unfolding import_of
import_made_lem t p room h e k = rw (le-ltb most_text (length t) h, e, le-ltb (length room) (length p) k)

-- "An exported packet imports as itself": so do all of a list
pub export_import : (s out left : List ℕ) (n : ℕ) → AllBytes s → export_of s out ≡ wrote n left → n ≤ most_text → (room : List ℕ) → length s ≤ length room
    → import_of (take n left) room ≡ record { answer = Ok (length s); left = s ++ drop (length s) room }
unfolding export_of
export_import s out left n b e h room k = go (sheet_of (packets_of s)) refl e
  where
    go : (m : Made Refusal) → sheet_of (packets_of s) ≡ m → export_made m out ≡ wrote n left
        → import_of (take n left) room ≡ record { answer = Ok (length s); left = s ++ drop (length s) room }
    go (fault why) r e = absurd (wrote_not why out left n e)
    go (made t) r e =
        import_made_lem (take n left) s room (omega (arith, length-take n left)) (rw (written_wrote t out left n e) (exported_imports s t b r)) k

-- "importing and exporting a sheet twice equals once while it stays within 64 KiB": what was imported is never refused in export but for room,
-- and the sheet that it gives imports as the same packets, and so gives the same sheet
pub record Again (p : List ℕ) : Type 0 where
  pub sheet : List ℕ
  pub exports : (out : List ℕ) → export_of p out ≡ written sheet out
  pub twice : length sheet ≤ most_text → (room : List ℕ) → length p ≤ length room
      → import_of sheet room ≡ record { answer = Ok (length p); left = p ++ drop (length p) room }

again : (p : List ℕ) → Packed p → Again p
unfolding export_of
again p k = record {
  sheet = k.sheet;
  exports = λ out. ap (λ (m : Made Refusal). export_made m out) (ap sheet_of (form_list k.list) ∙ k.makes);
  twice = λ h room r. import_made_lem k.sheet p room h (lines_import k.list k.small k.sheet k.makes) r;
}

pub import_again : (s out left : List ℕ) (n : ℕ) → import_of s out ≡ record { answer = Ok n; left = left } → Again (take n left)
unfolding import_of
import_again s out left n e = by_length (ltb most_text (length s)) e
  where
    by_room : (p : List ℕ) (t : Bool) → packets_in (lines_of s) ≡ made p
        → cond t (import_refused (Err (wrong.Refused Room)) out) (record { answer = Ok (length p); left = p ++ drop (length p) out }) ≡ record { answer = Ok n; left = left }
        → Again (take n left)
    by_room p true r e =
        let z : Err (wrong.Refused Room) ≡ Ok n = ap (λ (o : Outcome (Result ℕ ImportError) (List ℕ)). o.answer) e in
        impossible cc
    by_room p false r e =
        let z : Ok (length p) ≡ Ok n = ap (λ (o : Outcome (Result ℕ ImportError) (List ℕ)). o.answer) e in
        let y : p ++ drop (length p) out ≡ left = ap (λ (o : Outcome (Result ℕ ImportError) (List ℕ)). o.left) e in
        let x : length p ≡ n = cc in
        rw (← y, take_at p (drop (length p) out) n x) (again p (packed (sheet_formed (lines_of s) p r)))

    by_made : (m : Made ℕ) → packets_in (lines_of s) ≡ m → import_made m out ≡ record { answer = Ok n; left = left } → Again (take n left)
    by_made (made p) r e = by_room p (ltb (length out) (length p)) r e
    by_made (fault k) r e =
        let z : Err (wrong.Line k) ≡ Ok n = ap (λ (o : Outcome (Result ℕ ImportError) (List ℕ)). o.answer) e in
        impossible cc

    by_length : (t : Bool) → cond t (import_refused (Err (wrong.Refused Range)) out) (import_made (packets_in (lines_of s)) out) ≡ record { answer = Ok n; left = left }
        → Again (take n left)
    by_length true e =
        let z : Err (wrong.Refused Range) ≡ Ok n = ap (λ (o : Outcome (Result ℕ ImportError) (List ℕ)). o.answer) e in
        impossible cc
    by_length false e = by_made (packets_in (lines_of s)) refl e
