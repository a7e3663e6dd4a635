-- A list of packets as it is read: one behind the other, nothing lost; what is found is of the form, and conversely.
use Prim.Native.Nat.{ℕ, zero, suc, ◌+◌, ◌-◌, ◌*◌, ◌≤◌, ◌<◌}
use Rattle.packet.specs.declared.Framed.{Framed}
use Rattle.std.specs.Prelude.{Result, Err, Ok}
use mathlib.Core.List.{List, [], ◌∷◌, ◌++◌, append-nil}
use mathlib.Core.Path.{◌≡◌, refl, sym, ap, subst, ◌∙◌}
use native.Mathlib.Omega.{arith}
use native.Mathlib.Nat.{not-suc-le-zero}
use lib.ListN.{length, take, drop, length-append, length-drop, take-append-drop}
use lib.Seq.{length-take-le, take-length, take_at, drop_at}
use Rattle.wire.specs.declared.address.Address.{Address}
use Rattle.wire.specs.declared.refusal.Refusal.{Refusal}
use Rattle.packet.specs.Packet.{read_of, whole}
use Rattle.packet.proofs.Packets.{read_framing, read_followed}
use Rattle.hexadecimal.specs.Hex.{hex_line}
use Rattle.hexadecimal.proofs.Puts.{length_line}
use Rattle.sheet.specs.Line.{hex_word}
use Rattle.sheet.specs.Packets.{Found, over, packet, misread, found_by, packets_from, packets_of, bare_of, sheet_line}
use Rattle.sheet.specs.Form.{PacketForm, ListForm, none, then, not}

-- ---- packet by packet

-- the bytes of the packet before are passed
skipped : (k : ℕ) (s : List ℕ) → packets_from k s ≡ packets_of (drop k s)
unfolding packets_of
skipped zero s = refl
skipped (suc k) [] = refl
skipped (suc k) (b ∷ s) = skipped k s

pub packets_over : packets_of [] ≡ over
unfolding packets_of
packets_over = refl

pub packets_then : (s : List ℕ) (a : Address) (c e : ℕ) → read_of s ≡ whole a c e → packets_of s ≡ packet (take e s) (packets_of (drop e s))
unfolding packets_of
packets_then [] a c e r = absurd (let f = read_framing [] a c e r in omega (arith, f.end, f.reaches))
packets_then (b ∷ s) a c e r =
    let f = read_framing (b ∷ s) a c e r in
    let z : suc (e - 1) ≡ e = omega (arith, f.end) in
    rw r (ap (λ (x : Found). packet (take e (b ∷ s)) x) (skipped (e - 1) s ∙ ap (λ (n : ℕ). packets_from 0 (drop n (b ∷ s))) z))

pub packets_not : (s : List ℕ) (why : Refusal) → 0 < length s → read_of s ≡ Err why → packets_of s ≡ misread why
unfolding packets_of
packets_not [] why h r = absurd (not-suc-le-zero h)
packets_not (b ∷ s) why h r = rw r

-- ---- what is found is of the form

-- the bytes up to its end are a packet and nothing behind it
own_form : (s : List ℕ) (a : Address) (c e : ℕ) → read_of s ≡ whole a c e → PacketForm (take e s)
own_form s a c e r =
    let l : length (take e s) ≡ e = length-take-le e s (read_framing s a c e r).reaches in
    record { address = a; command = c; reads = rw l (rw append-nil at (read_followed s a c e r [])) }

from_formed : (k : ℕ) (s : List ℕ) → ListForm (drop k s) (packets_from k s)
from_formed zero [] = none
from_formed (suc k) [] = none
from_formed (suc k) (b ∷ s) = from_formed k s
from_formed zero (b ∷ s) = by_packet (read_of (b ∷ s)) refl (λ k. from_formed k s)
  where
    by_packet : (f : Result Framed Refusal) → read_of (b ∷ s) ≡ f → ((k : ℕ) → ListForm (drop k s) (packets_from k s)) → ListForm (b ∷ s) (found_by (b ∷ s) f (λ end. packets_from (end - 1) s))
    by_packet (Err why) r rest = not {s = b ∷ s} (omega arith) r
    by_packet (Ok f) r rest =
        let e = f.end in
        let z : suc (e - 1) ≡ e = omega (arith, (read_framing (b ∷ s) f.address f.command e r).end) in
        let l : ListForm (drop e (b ∷ s)) (packets_from (e - 1) s) = subst (λ (n : ℕ). ListForm (drop n (b ∷ s)) (packets_from (e - 1) s)) z (rest (e - 1)) in
        subst (λ (x : List ℕ). ListForm x (packet (take e (b ∷ s)) (packets_from (e - 1) s))) (take-append-drop e (b ∷ s)) (then (own_form (b ∷ s) f.address f.command e r) l)

pub list_formed : (s : List ℕ) → ListForm s (packets_of s)
unfolding packets_of
list_formed s = from_formed 0 s

-- ---- and conversely

-- a packet reads as itself, whatever follows it
form_reads : (p : List ℕ) (f : PacketForm p) (more : List ℕ) → read_of (p ++ more) ≡ whole f.address f.command (length p)
form_reads p f more = ap (λ (l : List ℕ). read_of (l ++ more)) (sym (take-length p)) ∙ read_followed p f.address f.command (length p) f.reads more

pub form_list : {s : List ℕ} {f : Found} → ListForm s f → packets_of s ≡ f
form_list none = packets_over
form_list (then {p = p} {s = s} h l) =
    packets_then (p ++ s) h.address h.command (length p) (form_reads p h s)
    ∙ rw (take_at p s (length p) refl, drop_at p s (length p) refl, form_list l)
form_list (not {s = s} {why = why} h r) = packets_not s why h r

-- ---- the line of a packet

-- a packet has at least header, address, command byte and sum
pub form_long : {p : List ℕ} → PacketForm p → 4 ≤ length p
form_long {p} f = omega (arith, (read_framing p f.address f.command (length p) f.reads).end)

-- its line has three characters for each byte but two
pub line_long : (p : List ℕ) → 4 ≤ length p → length (sheet_line p) + 2 ≡ 3 * length p
line_long p h =
    let k : length (bare_of p) ≡ length p - 2 = length-take-le (length p - 2) (drop 1 p) (omega (arith, length-drop 1 p)) in
    omega (arith, length-append hex_word (hex_line (bare_of p)), length_line (bare_of p) (omega arith))
