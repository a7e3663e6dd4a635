-- A sheet, as the code imports it: its answer first, then its packets.
use Prim.Native.Nat.{ℕ, suc, ◌+◌, ◌/◌, ◌≤◌, ◌<◌}
use Rattle.std.specs.Prelude.{Option, Some, None, ℕ, Result, Ok, Err}
use mathlib.Core.Bool.{Bool, true, false, cond}
use mathlib.Core.List.{List, [], ◌∷◌, ◌++◌}
use mathlib.Core.Path.{◌≡◌, refl, sym, ap, ◌∙◌}
use native.Mathlib.Omega.{arith}
use native.Mathlib.Nat.{zero-add}
use lib.Dec.{ltb}
use lib.ListN.{length, get_or, take, drop, set, length-append}
use lib.Seq.{sets, length-sets, take_at}
use borrow.Author.Tests.{lt-ltb, le-ltb, ltb-false}
use Rattle.wire.specs.Promise.{Outcome, Lending, lent}
use Rattle.wire.specs.Numbers.{done}
use Rattle.wire.proofs.Impossible.{impossible}
use Rattle.wire.proofs.Numbers.{not_done}
use Rattle.wire.specs.declared.refusal.Refusal.{Refusal}
use Rattle.wire.specs.declared.refusal.Refusal.TheVariants.{Range, Room, Line}
use Rattle.buffer.specs.Sum.{sum_of}
use Rattle.buffer.specs.Buffer.{put_of}
use Rattle.buffer.specs.Wrote.{Wrote}
use Rattle.buffer.proofs.Writing.{sets_append, sets_start}
use Rattle.buffer.proofs.Appends.{put_wrote}
use Rattle.text.specs.Lines.{lines_of}
use Rattle.hexadecimal.specs.Hex.{bytes}
use Rattle.hexadecimal.specs.Gathering.{gathered}
use Rattle.sheet.specs.Line.{line_in}
use Rattle.sheet.specs.Sheet.{Made, made, fault, sheet_packet, on_line, packets_in, most_text, import_refused, import_made, import_of, imported_number}
use Rattle.sheet.specs.Reading.{read_line, import_behind, import_answer, HasRoom, made_from, sheet_packets}
use Rattle.sheet.specs.declared.importing.ImportError.{ImportError}
use Rattle.sheet.specs.declared.importing.ImportError.TheVariants as wrong
use Rattle.sheet.proofs.Gathers.{gathered_none, Heard, gathered_whole, second}
use Rattle.sheet.proofs.Laying.{Laying, laid_on}
use Rattle.sheet.proofs.Said.{Said, line_says, said_some, said_few, packet_says, packet_long}

-- a line that says something keeps the length of what holds it
pub line_kept : (l b m : List ℕ) (q : Option ℕ) (n : ℕ) → gathered q m ≡ read_line l b → q ≡ Some n → length b ≡ 17 → length m ≡ 17
line_kept l b m q n g e h =
    let x = gathered_whole (line_in l) b n m (rw e at g) in
    ap (λ (k : List ℕ). length k) x.stored ∙ length-sets b 0 x.said ∙ h

-- ---- the answer: lines are passed, and their packets have so many bytes

module _ (left ls : List (List ℕ)) (l b m : List ℕ) (passed total room : ℕ) (q : Option ℕ) (t : Result ℕ ImportError) (next : left ≡ l ∷ ls)
    (g : gathered q m ≡ read_line l b) (inv : import_behind passed total room (packets_in left) ≡ t) where
  here : import_behind passed total room (on_line (line_in l) (packets_in ls)) ≡ t
  unfolding packets_in
  here = rw next at inv

  pub answer_fault : q ≡ None → Err (wrong.Line (passed + 1)) ≡ t
  answer_fault e = rw (gathered_none (line_in l) b (rw e at g)) at here

  module _ (n : ℕ) (e : q ≡ Some n) (v : ℕ) (long : length b ≡ 17) (ev : (v ≡ get_or m 1 0 / 16) × (v ≤ 15)) where
    heard : Heard (line_in l) b n m
    heard = gathered_whole (line_in l) b n m (rw e at g)

    said : Said heard.said
    said = line_says l heard.said heard.is

    -- "The data bytes number what the command byte says"
    size : length (sheet_packet heard.said) ≡ 4 + v
    size =
        let x = heard in
        let y : get_or m 1 0 ≡ get_or x.said 1 0 = ap (λ (l : List ℕ). get_or l 1 0) x.stored ∙ second x.said b (said_some x.said said) (omega arith) in
        omega (arith, said.count, packet_long x.said (said_some x.said said), ev.0)

    on : (r : Made ℕ) → import_behind passed total room (on_line (bytes heard.said) r) ≡ import_behind (passed + 1) (total + (4 + v)) room r
    on (fault k) = let z : passed + suc k ≡ passed + 1 + k = omega arith in rw z
    on (made p) =
        let z : total + length (sheet_packet heard.said ++ p) ≡ total + (4 + v) + length p = omega (arith, size, length-append (sheet_packet heard.said) p) in
        rw z

    pub answer_on : import_behind (passed + 1) (total + (4 + v)) room (packets_in ls) ≡ t
    answer_on = sym (on (packets_in ls)) ∙ (rw heard.is at here)

module _ (left : List (List ℕ)) (passed total room : ℕ) (t : Result ℕ ImportError) (none : left ≡ [])
    (inv : import_behind passed total room (packets_in left) ≡ t) where
  all : cond (ltb room (total + 0)) (Err (wrong.Refused Room)) (Ok (total + 0)) ≡ t
  unfolding packets_in
  all = rw none at inv

  end : total + 0 ≡ total
  end = omega arith

  pub answer_short : room < total → Err (wrong.Refused Room) ≡ t
  answer_short k = rw (end, lt-ltb room total k) at all

  pub answer_bytes : total ≤ room → Ok total ≡ t
  answer_bytes k = rw (end, le-ltb room total k) at all

-- ---- a packet

-- header, bytes and sum, stored one behind the other
pub packet_put : (out a b d : List ℕ) (at v : ℕ) → 2 ≤ length d → at + (length d + 2) ≤ length out → a ≡ set out at 0xAA → b ≡ put_of a (at + 1) d → v ≡ sum_of d
    → Wrote (sheet_packet d) at out (at + (length d + 2)) (set b (at + 1 + length d) v)
packet_put out a b d at v h k ea eb ev =
    let w = put_wrote a b d (at + 1) eb in
    let x : b ≡ sets (sets out at (0xAA ∷ [])) (at + 1) d = w.bytes (rw ea (omega (arith, length-sets out at (0xAA ∷ [])))) ∙ ap (λ (l : List ℕ). sets l (at + 1) d) ea in
    let y : at + 1 + length d ≡ at + length (0xAA ∷ d) = omega arith in
    let z : set b (at + 1 + length d) v ≡ sets out at (sheet_packet d) =
    rw (packet_says d h, x, sets_append out at (0xAA ∷ []) d, y, ev) (sets_append out at (0xAA ∷ d) (sum_of d ∷ [])) in
    record { behind = ap (λ (n : ℕ). at + n) (sym (packet_long d h)); bytes = λ _. z; long = ap (λ (l : List ℕ). length l) z ∙ length-sets out at (sheet_packet d) }

-- ---- the packets: those of the lines that are left are still to be written, from `to` on

on_line_lem : (d out o left : List ℕ) (to q : ℕ) (r : Made ℕ) → HasRoom (on_line (bytes d) r) to (length out) → made_from (on_line (bytes d) r) to out ≡ o
    → Wrote (sheet_packet d) to out q left → Laying r q left o
on_line_lem d out o left to q (made p) h e w = laid_on h e w
on_line_lem d out o left to q (fault k) h e w = absurd h

has_packet : (d : List ℕ) (to n : ℕ) (r : Made ℕ) → HasRoom (on_line (bytes d) r) to n → to + length (sheet_packet d) ≤ n
has_packet d to n (made p) h = omega (arith, length-append (sheet_packet d) p)
has_packet d to n (fault k) h = absurd h

module _ (left ls : List (List ℕ)) (l b m o out : List ℕ) (to : ℕ) (q : Option ℕ) (el : left ≡ l ∷ ls)
    (g : gathered q m ≡ read_line l b) (lay : Laying (packets_in left) to out o) where
  next : Laying (on_line (line_in l) (packets_in ls)) to out o
  unfolding packets_in
  next = rw el at lay

  pub packets_never : q ≡ None → out ≡ o
  packets_never e =
      let z : Laying {F = ℕ} (fault 1) to out o = rw (gathered_none (line_in l) b (rw e at g)) at next in
      absurd z.room

  module _ (n : ℕ) (e : q ≡ Some n) (long : length b ≡ 17) (p : List ℕ) (ep : p ≡ take n m) where
    spoken : Heard (line_in l) b n m
    spoken = gathered_whole (line_in l) b n m (rw e at g)

    its_said : Said spoken.said
    its_said = line_says l spoken.said spoken.is

    part_is : p ≡ spoken.said
    part_is =
        let x = spoken in
        let k : length x.said ≤ length b = omega (arith, said_few x.said its_said) in
        ep
        ∙ ap (λ (i : ℕ). take i m) x.long
        ∙ ap (λ (l : List ℕ). take (length x.said) l) (x.stored ∙ sets_start b x.said k)
        ∙ take_at x.said (drop (length x.said) b) (length x.said) refl

    going : Laying (on_line (bytes p) (packets_in ls)) to out o
    going = rw part_is (rw spoken.is at next)

    pub packet_some : 2 ≤ length p
    packet_some = rw part_is (said_some spoken.said its_said)

    pub packet_room : to + (length p + 2) ≤ length out
    packet_room =
        omega (arith, packet_long p packet_some, has_packet p to (length out) (packets_in ls) going.room)

    pub packets_on : (after : List ℕ) (r : ℕ) → Wrote (sheet_packet p) to out r after → Laying (packets_in ls) r after o
    packets_on after r w = on_line_lem p out o after to r (packets_in ls) going.room going.laid w

pub packets_done : (left : List (List ℕ)) (out o : List ℕ) (to : ℕ) → left ≡ [] → Laying (packets_in left) to out o → out ≡ o
unfolding packets_in
packets_done left out o to none lay = (rw none at lay).laid

-- ---- the whole sheet

answer_made : (m : Made ℕ) (out : List ℕ) → import_answer m (length out) ≡ (import_made m out).answer
answer_made (fault k) out = rw zero-add
answer_made (made p) out = rw zero-add (by_room (ltb (length out) (length p)))
  where
    by_room : (t : Bool) → cond t (Err (wrong.Refused Room)) (Ok (length p))
        ≡ (cond t (import_refused (Err (wrong.Refused Room)) out) (record { answer = Ok (length p); left = p ++ drop (length p) out })).answer
    by_room true = refl
    by_room false = refl

-- what a refusal leaves
pub spared : (m : Made ℕ) (out : List ℕ) → (imported_number (import_made m out).answer ≡ done → ⊥) → (import_made m out).left ≡ out
spared (fault k) out n = refl
spared (made p) out n = by_room (ltb (length out) (length p)) n
  where
    by_room : (t : Bool)
        → (imported_number (cond t (import_refused (Err (wrong.Refused Room)) out) (record { answer = Ok (length p); left = p ++ drop (length p) out })).answer ≡ done → ⊥)
        → (cond t (import_refused (Err (wrong.Refused Room)) out) (record { answer = Ok (length p); left = p ++ drop (length p) out })).left ≡ out
    by_room true n = refl
    by_room false n = absurd (n refl)

-- what is written
filled : (m : Made ℕ) (out : List ℕ) (n : ℕ) → Ok n ≡ import_answer m (length out) → HasRoom m 0 (length out) × ((import_made m out).left ≡ made_from m 0 out)
filled (fault k) out n e = impossible cc
filled (made p) out n e = by_room (ltb (length out) (0 + length p)) refl e
  where
    by_room : (t : Bool) → ltb (length out) (0 + length p) ≡ t → Ok n ≡ cond t (Err (wrong.Refused Room)) (Ok (0 + length p))
        → (0 + length p ≤ length out) × ((import_made (made p) out).left ≡ sets out 0 p)
    by_room true k e = impossible cc
    by_room false k e =
        let z : 0 + length p ≤ length out = ltb-false (length out) (0 + length p) k in
        (z, rw (le-ltb (length out) (length p) (omega arith)) (sym (sets_start out p (omega arith))))

both : {A B : Type 0} (o : Outcome A B) (a : A) (b : B) → a ≡ o.answer → b ≡ o.left → record { answer = a; left = b } ≡ o
both o a b e f = rw (e, f)

pub import_long : (s out : List ℕ) → most_text < length s → Lending imported_number (Err (wrong.Refused Range)) out (import_of s out)
unfolding import_of
import_long s out h = lent (rw (lt-ltb most_text (length s) h))

module _ (s out : List ℕ) (a : Result ℕ ImportError) (h : length s ≤ most_text) (e : a ≡ import_answer (packets_in (lines_of s)) (length out)) where
  by_made : import_of s out ≡ import_made (packets_in (lines_of s)) out
  unfolding import_of
  by_made = rw (le-ltb most_text (length s) h)

  answered : a ≡ (import_made (packets_in (lines_of s)) out).answer
  answered = e ∙ answer_made (packets_in (lines_of s)) out

  import_refused_lem : (why : Refusal) → a ≡ Err (wrong.Refused why) → Lending imported_number (Err (wrong.Refused why)) out (import_of s out)
  import_refused_lem why f =
      let z : Err (wrong.Refused why) ≡ (import_made (packets_in (lines_of s)) out).answer = sym f ∙ answered in
      lent (both (import_made (packets_in (lines_of s)) out) (Err (wrong.Refused why)) out z (sym (spared (packets_in (lines_of s)) out (λ k. not_done why (rw (← z) at k)))) ∙ sym by_made)

  import_fault : (k : ℕ) → a ≡ Err (wrong.Line k) → Lending imported_number (Err (wrong.Line k)) out (import_of s out)
  import_fault k f =
      let z : Err (wrong.Line k) ≡ (import_made (packets_in (lines_of s)) out).answer = sym f ∙ answered in
      lent (both (import_made (packets_in (lines_of s)) out) (Err (wrong.Line k)) out z (sym (spared (packets_in (lines_of s)) out (λ y. not_done Line (rw (← z) at y)))) ∙ sym by_made)

  pub import_failed : (why : ImportError) → a ≡ Err why → Lending imported_number (Err why) out (import_of s out)
  import_failed (wrong.Refused why) f = import_refused_lem why f
  import_failed (wrong.Line k) f = import_fault k f

  module _ (n : ℕ) (f : a ≡ Ok n) where
    pub import_room : HasRoom (packets_in (lines_of s)) 0 (length out)
    import_room = (filled (packets_in (lines_of s)) out n (sym f ∙ e)).0

    pub import_done : (left : List ℕ) → left ≡ sheet_packets s out → Lending imported_number (Ok n) left (import_of s out)
    import_done left g =
        let z : Ok n ≡ (import_made (packets_in (lines_of s)) out).answer = sym f ∙ answered in
        let y : left ≡ (import_made (packets_in (lines_of s)) out).left = g ∙ sym (filled (packets_in (lines_of s)) out n (sym f ∙ e)).1 in
        lent (both (import_made (packets_in (lines_of s)) out) (Ok n) left z y ∙ sym by_made)
