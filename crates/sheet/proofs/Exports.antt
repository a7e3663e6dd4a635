-- A list of packets, as the code exports it: they are counted and read first, then their lines are written.
use Prim.Native.Nat.{ℕ, suc, ◌+◌, ◌-◌, ◌*◌, ◌/◌, ◌≤◌, ◌<◌}
use Rattle.packet.specs.declared.Framed.{Framed}
use Rattle.std.specs.Prelude.{Result, Ok, Err, ℕ}
use Rattle.wire.specs.Numbers.{number_by}
use mathlib.Core.List.{List, [], ◌++◌, append-nil, append_assoc}
use mathlib.Core.Path.{◌≡◌, refl, sym, ap, ◌∙◌}
use native.Mathlib.Omega.{arith}
use native.Mathlib.Nat.{add-zero, zero-add}
use lib.ListN.{length, take, drop, length-append, length-drop, drop_of_length-le}
use lib.Seq.{sets, sets-eq, length-sets, length-take-le, drop-drop, take_all}
use Rattle.wire.specs.Promise.{Outcome, Promise, Lending, lent}
use Rattle.wire.proofs.Impossible.{impossible}
use Rattle.wire.specs.declared.address.Address.{Address}
use Rattle.wire.specs.declared.refusal.Refusal.{Refusal}
use Rattle.wire.specs.declared.refusal.Refusal.TheVariants.{Room}
use borrow.Rule.Slice.PartMut.{mid_of, post_of, put_mid}
use Rattle.buffer.specs.Buffer.{put_of, written}
use Rattle.buffer.specs.Wrote.{Wrote}
use Rattle.buffer.proofs.Writing.{sets_start, no_room, has_room_lem, written_fits}
use Rattle.buffer.proofs.Appends.{put_wrote, wrote_then}
use Rattle.hexadecimal.specs.Hex.{hex_line}
use Rattle.sheet.specs.Line.{hex_word}
use Rattle.packet.specs.Packet.{frame_of, read_of, whole}
use Rattle.sheet.specs.Sheet.{Made, made, fault}
use Rattle.packet.proofs.Packets.{whole_parts, framing, read_says}
use Rattle.sheet.specs.Packets.{Found, over, packet, misread, packets_of, bare_of, sheet_line, ahead, sheet_of, export_made, export_of}
use Rattle.sheet.specs.Form.{ListForm}
use Rattle.sheet.specs.Form as form
use Rattle.sheet.specs.Reading.{count_behind, count_packets, HasRoom, sheet_lines}
use Rattle.sheet.proofs.Lists.{packets_over, packets_then, packets_not, list_formed, form_long, line_long}
use Rattle.sheet.proofs.Laying.{Laying, laid_on}

-- ---- counted

-- what the packets from `at` on come to
abbrev pub coming : ℕ → List ℕ → ℕ → Result ℕ Refusal
coming count s at = count_behind count (packets_of (drop at s))

module _ (s d : List ℕ) (at : ℕ) (ed : d ≡ drop at s) (f : Result Framed Refusal) (r : Promise number_by f (read_of d)) where
  pub count_refused : (count : ℕ) (t : Result ℕ Refusal) (why : Refusal) → at < length s → coming count s at ≡ t → f ≡ Err why → Err why ≡ t
  count_refused count t why h inv e =
      let k : 0 < length (drop at s) = omega (arith, length-drop at s) in
      rw (packets_not (drop at s) why k (rw ed at (sym r.answer ∙ e))) at inv

  module _ (g : Framed) (ef : f ≡ Ok g) where
    pub count_on : (count : ℕ) (t : Result ℕ Refusal) → coming count s at ≡ t → coming (count + 1) s (at + g.end) ≡ t
    count_on count t inv =
        let step = packets_then (drop at s) g.address g.command g.end (rw ed at (sym r.answer ∙ ef)) in
        rw drop-drop at (rw step at inv)

pub count_done : (s : List ℕ) (at count : ℕ) (t : Result ℕ Refusal) → length s ≤ at → coming count s at ≡ t → Ok count ≡ t
count_done s at count t h inv = rw packets_over at (rw (drop_of_length-le s h) at inv)

-- ---- how long a sheet is: three characters for each byte, but two for each packet

pub record Long (n packets bytes : ℕ) : Type 0 where
  pub exact : n + 2 * packets ≡ 3 * bytes
  pub few : 4 * packets ≤ bytes

-- a list that is made into a sheet, counted behind `count` packets
pub record Counted (count : ℕ) (s : List ℕ) (f : Found) (t : List ℕ) : Type 0 where
  pub packets : ℕ
  pub counts : count_behind count f ≡ Ok (count + packets)
  pub long : Long (length t) packets (length s)

counted : {s : List ℕ} {f : Found} → ListForm s f → (count : ℕ) (t : List ℕ) → sheet_of f ≡ made t → Counted count s f t
unfolding sheet_of
counted form.none count t e =
    let z : t ≡ [] = cc in
    rw z (record { packets = 0; counts = ap Ok (sym (add-zero count)); long = record { exact = refl; few = omega arith } })
counted (form.not h r) count t e = impossible cc
counted (form.then {p = p} {s = s} {f = f} h l) count t e = by_rest (sheet_of f) (λ x r. counted l (count + 1) x r) e
  where
    by_rest : (m : Made Refusal) → ((x : List ℕ) → m ≡ made x → Counted (count + 1) s f x) → ahead p m ≡ made t → Counted count (p ++ s) (packet p f) t
    by_rest (fault why) ih e = impossible cc
    by_rest (made x) ih e =
        let z : t ≡ sheet_line p ++ x = cc in
        let n = ih x refl in
        let k : count + 1 + n.packets ≡ count + suc n.packets = omega arith in
        rw z (record {
          packets = suc n.packets;
          counts = n.counts ∙ ap Ok k;
          long = record {
            exact = omega (arith, n.long.exact, line_long p (form_long h), length-append (sheet_line p) x, length-append p s);
            few = omega (arith, n.long.few, form_long h, length-append p s);
          };
        })

pub list_counted : (s t : List ℕ) → sheet_of (packets_of s) ≡ made t → Counted 0 s (packets_of s) t
list_counted s t e = counted (list_formed s) 0 t e

-- ---- a line: the word, and the line of bytes in the part of the buffer behind it

module _ (out a b p d : List ℕ) (at : ℕ) (r : Result ℕ Refusal) (some : 4 ≤ length p) (room : at + 3 * length p ≤ length out + 2) (ea : a ≡ put_of out at hex_word)
    (ed : d ≡ take (length p - 1 - 1) (drop 1 p)) (w : Lending number_by r b (written (hex_line d) (mid_of (at + 4) (length a - (at + 4)) a))) where
  word : Wrote hex_word at out (at + 4) a
  word = put_wrote out a hex_word at ea

  bare : bare_of p ≡ d
  bare = let z : length p - 2 ≡ length p - 1 - 1 = omega arith in ap (λ (n : ℕ). take n (drop 1 p)) z ∙ sym ed

  three : length (hex_line d) ≡ 3 * (length p - 1 - 1)
  three = rw bare at (let z : length (hex_line (bare_of p)) ≡ 3 * (length p - 1 - 1) = omega (arith, line_long p some, length-append hex_word (hex_line (bare_of p))) in z)

  behind_word : mid_of (at + 4) (length a - (at + 4)) a ≡ drop (at + 4) a
  behind_word = take_all (length a - (at + 4)) (drop (at + 4) a) (omega (arith, length-drop (at + 4) a))

  fits : (at + 4) + length (hex_line d) ≤ length a
  fits = omega (arith, three, word.long)

  left : b ≡ hex_line d ++ drop (length (hex_line d)) (drop (at + 4) a)
  left =
      w.leaves
      ∙ ap (λ (l : List ℕ). (written (hex_line d) l).left) behind_word
      ∙ ap (λ (o : Outcome (Result ℕ Refusal) (List ℕ)). o.left) (written_fits (hex_line d) (drop (at + 4) a) (omega (arith, fits, length-drop (at + 4) a)))

  none : post_of (at + 4) (length a - (at + 4)) a ≡ []
  none = drop_of_length-le (drop (at + 4) a) {i = length a - (at + 4)} (omega (arith, length-drop (at + 4) a))

  put_whole : put_mid (at + 4) (length a - (at + 4)) a b ≡ sets a (at + 4) (hex_line d)
  put_whole =
      ap (λ (l : List ℕ). take (at + 4) a ++ (b ++ l)) none
      ∙ ap (λ (l : List ℕ). take (at + 4) a ++ l) (append-nil b ∙ left ∙ ap (λ (l : List ℕ). hex_line d ++ l) (drop-drop (length (hex_line d)) (at + 4) a))
      ∙ sym (append_assoc (take (at + 4) a) (hex_line d) (drop (at + 4 + length (hex_line d)) a))
      ∙ sym (sets-eq (hex_line d) a (at + 4) fits)

  pub line_kept : length (put_mid (at + 4) (length a - (at + 4)) a b) ≡ length out
  line_kept = ap (λ (l : List ℕ). length l) put_whole ∙ length-sets a (at + 4) (hex_line d) ∙ word.long

  pub line_put : Wrote (sheet_line p) at out (at + 4 + 3 * (length p - 1 - 1)) (put_mid (at + 4) (length a - (at + 4)) a b)
  line_put =
      rw bare
      (wrote_then word (record {
        behind = ap (λ (n : ℕ). at + 4 + n) (sym three);
        bytes = λ _. put_whole;
        long = ap (λ (l : List ℕ). length l) put_whole ∙ length-sets a (at + 4) (hex_line d);
      }))

-- ---- the lines: those of the packets from `at` on are still to be written, from `to` on

record Taken (s : List ℕ) (to : ℕ) (out o : List ℕ) : Type 0 where
  pub address : Address
  pub command : ℕ
  pub end : ℕ
  pub reads : read_of s ≡ whole address command end
  pub rest : List ℕ
  pub is : sheet_of (packets_of (drop end s)) ≡ made rest
  pub room : to + length (sheet_line (take end s) ++ rest) ≤ length out
  pub laid : sets out to (sheet_line (take end s) ++ rest) ≡ o

-- what has room isn't refused: so a packet is read there
taken : (s : List ℕ) (to : ℕ) (out o : List ℕ) → 0 < length s → Laying (sheet_of (packets_of s)) to out o → Taken s to out o
unfolding sheet_of
taken s to out o h lay = by_packet (read_of s) refl
  where
    by_rest : (a : Address) (c e : ℕ) → read_of s ≡ whole a c e → (m : Made Refusal) → sheet_of (packets_of (drop e s)) ≡ m → Laying (ahead (take e s) m) to out o → Taken s to out o
    by_rest a c e r (fault why) i lay = absurd lay.room
    by_rest a c e r (made t) i lay = record { address = a; command = c; end = e; reads = r; rest = t; is = i; room = lay.room; laid = lay.laid }

    by_packet : (f : Result Framed Refusal) → read_of s ≡ f → Taken s to out o
    by_packet (Err why) r = absurd (rw (packets_not s why h r) at lay).room
    by_packet (Ok f) r =
        by_rest f.address f.command f.end r (sheet_of (packets_of (drop f.end s))) refl (rw (packets_then s f.address f.command f.end r) at lay)

module _ (s d : List ℕ) (at to : ℕ) (out o : List ℕ) (h : at < length s) (ed : d ≡ drop at s) (lay : Laying (sheet_of (packets_of (drop at s))) to out o)
    (f : Result Framed Refusal) (r : Promise number_by f (frame_of d)) where
  took : Taken d to out o
  took =
      let k : 0 < length d = omega (arith, ap (λ (l : List ℕ). length l) ed, length-drop at s) in
      taken d to out o k (rw (← ed) at lay)

  begun : f ≡ whole took.address took.command took.end
  begun = r.answer ∙ (read_says d took.address took.command took.end took.reads).0

  -- it never comes to a packet that can't be read
  pub lines_never : (why : Refusal) → f ≡ Err why → out ≡ o
  lines_never why e = let z : whole took.address took.command took.end ≡ Err why = sym begun ∙ e in impossible cc

  module _ (k : Framed) (e : f ≡ Ok k) (p : List ℕ) (ep : p ≡ take k.end d) where
    ends : took.end ≡ k.end
    ends = (whole_parts (sym begun ∙ e)).1.1

    long : (length p ≡ k.end) × (4 ≤ k.end)
    long =
        let g = framing d k.address k.command k.end (sym r.answer ∙ e) in
        (ap (λ (l : List ℕ). length l) ep ∙ length-take-le k.end d g.reaches, omega (arith, g.end))

    own : take took.end d ≡ p
    own = ap (λ (n : ℕ). take n d) ends ∙ sym ep

    pub line_some : 4 ≤ length p
    line_some = omega (arith, long.0, long.1)

    pub line_room : to + 3 * length p ≤ length out + 2
    line_room = omega (arith, rw own at took.room, length-append (sheet_line p) took.rest, line_long p line_some)

    pub lines_on : (left : List ℕ) (q : ℕ) → Wrote (sheet_line p) to out q left → Laying (sheet_of (packets_of (drop (at + k.end) s))) q left o
    lines_on left q w =
        let i : sheet_of (packets_of (drop (at + k.end) s)) ≡ made took.rest =
        ap (λ (l : List ℕ). sheet_of (packets_of l)) (sym (drop-drop k.end at s) ∙ ap (drop k.end) (sym ed) ∙ ap (λ (n : ℕ). drop n d) (sym ends)) ∙ took.is in
        rw i (laid_on (rw own at took.room) (rw own at took.laid) w)

pub lines_done : (s out o : List ℕ) (at to : ℕ) → length s ≤ at → Laying (sheet_of (packets_of (drop at s))) to out o → out ≡ o
unfolding sheet_of
lines_done s out o at to h lay = (rw packets_over at (rw (drop_of_length-le s h) at lay)).laid

-- ---- the whole list

-- a list that isn't made into a sheet is refused as its count is
refuses : (f : Found) (count : ℕ) (why : Refusal) → sheet_of f ≡ fault why → count_behind count f ≡ Err why
unfolding sheet_of
refuses over count why e = impossible cc
refuses (misread w) count why e = let z : w ≡ why = cc in ap Err z
refuses (packet p f) count why e = by_rest (sheet_of f) (refuses f (count + 1) why) e
  where
    by_rest : (m : Made Refusal) → (m ≡ fault why → count_behind (count + 1) f ≡ Err why) → ahead p m ≡ fault why → count_behind (count + 1) f ≡ Err why
    by_rest (made t) ih e = impossible cc
    by_rest (fault w) ih e = let z : w ≡ why = cc in ih (ap fault z)

module _ (s out : List ℕ) (a : Result ℕ Refusal) (e : a ≡ count_packets (packets_of s)) where
  pub export_refused : (why : Refusal) → a ≡ Err why → Lending number_by (Err why) out (export_of s out)
  unfolding export_of
  export_refused why f = go (sheet_of (packets_of s)) refl
    where
      go : (m : Made Refusal) → sheet_of (packets_of s) ≡ m → Lending number_by (Err why) out (export_made m out)
      go (made t) r = let z : Err why ≡ Ok _ = sym f ∙ e ∙ (list_counted s t r).counts in impossible cc
      go (fault w) r =
          let z : Err why ≡ Err w = sym f ∙ e ∙ refuses (packets_of s) 0 w r in
          let k : why ≡ w = cc in
          lent (rw k)

  module _ (n : ℕ) (f : a ≡ Ok n) where
    record All : Type 0 where
      pub text : List ℕ
      pub is : sheet_of (packets_of s) ≡ made text
      pub long : Long (length text) n (length s)

    all : All
    all = go (sheet_of (packets_of s)) refl
      where
        go : (m : Made Refusal) → sheet_of (packets_of s) ≡ m → All
        go (fault w) r = let z : Ok n ≡ Err w = sym f ∙ e ∙ refuses (packets_of s) 0 w r in impossible cc
        go (made t) r =
            let k = list_counted s t r in
            let z : Ok n ≡ Ok (0 + k.packets) = sym f ∙ e ∙ k.counts in
            let y : n ≡ 0 + k.packets = cc in
            record { text = t; is = r; long = rw (y, zero-add) k.long }

    exported : export_of s out ≡ written all.text out
    unfolding export_of
    exported = rw all.is

    pub export_few : n ≤ length s
    export_few = omega (arith, all.long.few)

    pub export_short : length out < length s → Lending number_by (Err Room) out (export_of s out)
    export_short h = rw exported (no_room all.text out (omega (arith, all.long.exact, all.long.few)))

    pub export_shorter : length s ≤ length out → (length out - length s) / 2 < length s - n → Lending number_by (Err Room) out (export_of s out)
    export_shorter h k = rw exported (no_room all.text out (omega (arith, all.long.exact, all.long.few)))

    module _ (h : length s ≤ length out) (k : length s - n ≤ (length out - length s) / 2) where
      sheet_fits : length all.text ≤ length out
      sheet_fits = omega (arith, all.long.exact, all.long.few)

      pub export_room : HasRoom (sheet_of (packets_of s)) 0 (length out)
      export_room = rw all.is (omega (arith, sheet_fits))

      pub export_done : (left : List ℕ) → left ≡ sheet_lines s out → Lending number_by (Ok (length s + 2 * (length s - n))) left (export_of s out)
      export_done left g =
          let m : length all.text ≡ length s + 2 * (length s - n) = omega (arith, all.long.exact, all.long.few) in
          let y : left ≡ sets out 0 all.text = rw all.is at g in
          rw exported (has_room_lem all.text out (length s + 2 * (length s - n)) left m (omega (arith, sheet_fits))
          (y ∙ sets_start out all.text sheet_fits ∙ ap (λ (i : ℕ). all.text ++ drop i out) m))
