-- Command packets, whatever follows them: what the builder writes reads back as its parts and ends at its length, up to its end an accepted one is what it writes from its parts,
-- a damaged one keeps its frame and has a wrong sum.
use Rattle.std.proofs.Common.{◌≡◌, ℕ, zero, suc, ◌+◌, ◌-◌, ◌/◌, ◌%◌, ◌<◌, ◌≤◌, true, false, not, eqb, ltb, List, [], ◌∷◌, ◌++◌, length, get_or, take, drop, set, sym, refl, ap, ◌∙◌, append_assoc, arith, length-append, length-drop, length-take, length-take-le, get_or-drop, get_or-set_other, get_or-take, take-take, take_at, ltb-false, le-ltb, eq-eqb, eqb-true, Result, Ok, Err}
use Rattle.packet.specs.declared.Framed.{Framed}
use lib.Seq.{take-append_seam, drop-set-add, take-set-lt}
use borrow.Author.Tests.{not-false}
use Rattle.buffer.specs.Sum.{with_sum, ends_in_sum}
use Rattle.wire.specs.Address.{address_of, byte_of}
use Rattle.packet.specs.Packet.{command_of, count_of, end_of, parts_of, data_part, frame_of, is_intact, checked, read_of, whole}
use Rattle.packet.specs.Build.{head_of, packet_of, build_of}
use Rattle.buffer.specs.Buffer.{at_start, written}
use Rattle.buffer.specs.Change.{AllBytes, Changed, Damaged}
use Rattle.wire.specs.declared.address.Address.{Address}
use Rattle.wire.specs.declared.refusal.Refusal.{Refusal}
use Rattle.wire.specs.declared.refusal.Refusal.TheVariants.{Short, Header, Sum, Range}
use Rattle.wire.proofs.Choice.{chose_first, chose_second}
use Rattle.wire.proofs.Impossible.{impossible}
use Rattle.wire.proofs.Answered.{ok_is}
use Rattle.wire.proofs.Addresses.{byte_address}
use Rattle.buffer.proofs.Bytes.{byte_at}
use Rattle.buffer.proofs.Writing.{written_fits, wrote, wrote_not, written_count, written_wrote}
use Rattle.buffer.proofs.Sums.{length_with_sum, with_sum_ends, ends_shape, changed_length, changed_breaks}

-- a refusal is no packet
refused_not : (why : Refusal) (a : Address) (c n : ℕ) → Err why ≡ whole a c n → ⊥
refused_not why a c n e = impossible cc

-- two packets that are one have the same parts
pub whole_parts : {a a' : Address} {c c' n n' : ℕ} → whole a c n ≡ whole a' c' n' → (a ≡ a') × ((c ≡ c') × (n ≡ n'))
whole_parts e =
    let f = ok_is e in
    (ap (λ (x : Framed). x.address) f, (ap (λ (x : Framed). x.command) f, ap (λ (x : Framed). x.end) f))

-- what the checks but for the sum find of a packet that they pass: at the start of the bytes, whatever follows
pub record Framing (s : List ℕ) (a : Address) (c n : ℕ) : Type 0 where
  pub header : get_or s 0 0 ≡ 0xAA
  pub address : address_of (get_or s 1 0) ≡ a
  pub command : command_of s ≡ c
  pub end : end_of s ≡ n
  pub reaches : n ≤ length s

pub framing : (s : List ℕ) (a : Address) (c n : ℕ) → frame_of s ≡ whole a c n → Framing s a c n
unfolding frame_of
framing s a c n e =
    let t1 = chose_second (ltb (length s) 1) e (refused_not Short a c n) in
    let t2 = chose_second (not (eqb (get_or s 0 0) 0xAA)) t1.1 (refused_not Header a c n) in
    let t3 = chose_second (ltb (length s) 4) t2.1 (refused_not Short a c n) in
    let t4 = chose_second (ltb (length s) (end_of s)) t3.1 (refused_not Short a c n) in
    let k = whole_parts t4.1 in
    record {
      header = eqb-true _ _ (not-false _ t2.0);
      address = k.0;
      command = k.1.0;
      end = k.1.1;
      reaches = omega (arith, ltb-false);
    }

-- "0 to 15 data bytes": no packet has more than 19
pub most_end : (s : List ℕ) (a : Address) (c n : ℕ) → frame_of s ≡ whole a c n → get_or s 2 0 < 256 → n ≤ 19
most_end s a c n e b = omega (arith, (framing s a c n e).end)

-- the checks but for the sum pass
frames : (s : List ℕ) → end_of s ≤ length s → get_or s 0 0 ≡ 0xAA → frame_of s ≡ parts_of s
unfolding frame_of
frames s e h =
    simp (
      le-ltb (length s) 1 (omega arith),
      eq-eqb (get_or s 0 0) 0xAA h,
      le-ltb (length s) 4 (omega arith),
      le-ltb (length s) (end_of s) (omega arith),
    )

-- a packet with a right sum reads as its parts
reads : (s : List ℕ) (a : Address) (c n : ℕ) → frame_of s ≡ whole a c n → is_intact (take n s) ≡ true → read_of s ≡ whole a c n
unfolding read_of
reads s a c n f e = rw (f, e)

-- and with a wrong sum as 4
reads_not : (s : List ℕ) (a : Address) (c n : ℕ) → frame_of s ≡ whole a c n → is_intact (take n s) ≡ false → read_of s ≡ Err Sum
unfolding read_of
reads_not s a c n f e = rw (f, e)

-- what reading says of a packet that it accepts
checked_says : (s : List ℕ) (f : Result Framed Refusal) (a : Address) (c n : ℕ) → checked s f ≡ whole a c n → (f ≡ whole a c n) × (is_intact (take n s) ≡ true)
checked_says s (Ok f) a c n e =
    let t = chose_first (is_intact (take f.end s)) e (refused_not Sum a c n) in
    (t.1, rw (ap (λ (x : Framed). x.end) (ok_is t.1)) at t.0)
checked_says s (Err why) a c n e = absurd (refused_not why a c n e)

pub read_says : (s : List ℕ) (a : Address) (c n : ℕ) → read_of s ≡ whole a c n → (frame_of s ≡ whole a c n) × (is_intact (take n s) ≡ true)
unfolding read_of
read_says s a c n e = checked_says s (frame_of s) a c n e

pub read_framing : (s : List ℕ) (a : Address) (c n : ℕ) → read_of s ≡ whole a c n → Framing s a c n
read_framing s a c n e = framing s a c n (read_says s a c n e).0

-- ---- built packets, and more bytes behind them

pub built_length : (a c : ℕ) (d : List ℕ) → length (packet_of a c d) ≡ 4 + length d
built_length a c d = omega (arith, length_with_sum (a ∷ head_of c d ∷ d))

built_intact : (a c : ℕ) (d : List ℕ) → is_intact (packet_of a c d) ≡ true
unfolding is_intact
built_intact a c d = with_sum_ends (a ∷ head_of c d ∷ d)

module _ (a c : ℕ) (d more : List ℕ) (small : c < 16) where
  built_count : count_of (packet_of a c d ++ more) ≡ length d
  built_count = omega arith

  built_frames : frame_of (packet_of a c d ++ more) ≡ whole (address_of a) c (4 + length d)
  built_frames =
      let m : head_of c d % 16 ≡ c = omega arith in
      frames (packet_of a c d ++ more) (omega (arith, built_length a c d, built_count, length-append (packet_of a c d) more)) refl ∙ cc built_count

  -- a built packet reads back as its parts, and ends at its length
  pub built_reads : read_of (packet_of a c d ++ more) ≡ whole (address_of a) c (4 + length d)
  built_reads =
      let own : take (4 + length d) (packet_of a c d ++ more) ≡ packet_of a c d = take_at (packet_of a c d) more (4 + length d) (built_length a c d) in
      reads (packet_of a c d ++ more) (address_of a) c (4 + length d) built_frames (ap is_intact own ∙ built_intact a c d)

  pub built_data : data_part (packet_of a c d ++ more) ≡ d
  unfolding data_part
  built_data = rw built_count (ap (take (length d)) (append_assoc d _ more) ∙ take-append_seam d _)

-- the builder answered n bytes: whatever follows them, they read back as the parts that it was given, and end there
module _ (a c : ℕ) (d out left : List ℕ) (n : ℕ) (e : build_of a c d out ≡ wrote n left) (more : List ℕ) where
  fits : (c < 16) × (written (packet_of a c d) out ≡ wrote n left)
  unfolding build_of
  fits =
      let t = chose_second (ltb 15 (length d)) e (wrote_not Range out left n) in
      let u = chose_second (ltb 15 c) t.1 (wrote_not Range out left n) in
      (omega (arith, ltb-false 15 c u.0), u.1)

  placed : take n left ≡ packet_of a c d
  placed = written_wrote (packet_of a c d) out left n fits.1

  pub written_reads : read_of (take n left ++ more) ≡ whole (address_of a) c n
  written_reads =
      let k : 4 + length d ≡ n = sym (built_length a c d) ∙ written_count (packet_of a c d) out left n fits.1 in
      rw placed (built_reads a c d more fits.0 ∙ cc k)

  pub written_data : data_part (take n left ++ more) ≡ d
  written_data = rw placed (built_data a c d more fits.0)

-- ---- accepted packets

four : (n : ℕ) → 4 + n ≡ suc (suc (suc (suc n)))
four n = omega arith

-- the first 4 + n bytes: three, and the others
shape : (s : List ℕ) (n : ℕ) → 4 + n ≤ length s → take (4 + n) s ≡ get_or s 0 0 ∷ get_or s 1 0 ∷ get_or s 2 0 ∷ take (suc n) (drop 3 s)
shape [] n h = absurd (omega arith)
shape (x ∷ []) n h = absurd (omega arith)
shape (x ∷ y ∷ []) n h = absurd (omega arith)
shape (x ∷ y ∷ z ∷ r) n h = rw (four n)

-- the data bytes number what the command byte says: with four more they end the packet
pub data_length : (s : List ℕ) (a : Address) (c n : ℕ) → frame_of s ≡ whole a c n → 4 + length (data_part s) ≡ n
unfolding data_part
data_length s a c n e =
    let f = framing s a c n e in
    ap (λ (k : ℕ). 4 + k) (length-take-le (count_of s) (drop 3 s) (omega (arith, length-drop 3 s, f.reaches, f.end))) ∙ f.end

-- the bytes up to the end of an accepted packet are the packet built from its parts
pub accepted_built : (s : List ℕ) (a : Address) (c n : ℕ) → read_of s ≡ whole a c n → take n s ≡ packet_of (byte_of a) c (data_part s)
unfolding data_part is_intact
accepted_built s a c n e =
    let t = read_says s a c n e in
    let f = read_framing s a c n e in
    let r : List ℕ = take (suc (count_of s)) (drop 3 s) in
    let d : List ℕ = take (count_of s) (drop 3 s) in
    let eb : get_or s 1 0 ≡ byte_of a = sym (byte_address (get_or s 1 0)) ∙ ap byte_of f.address in
    let lr : length r ≡ suc (count_of s) = length-take-le (suc (count_of s)) (drop 3 s) (omega (arith, length-drop 3 s, f.reaches, f.end)) in
    let ld : length d ≡ count_of s = omega (arith, data_length s a c n t.0, f.end) in
    let eh : get_or s 2 0 ≡ head_of c d = omega (arith, f.command, f.end) in
    let p : take n s ≡ get_or s 0 0 ∷ get_or s 1 0 ∷ get_or s 2 0 ∷ r = ap (λ (m : ℕ). take m s) (sym f.end) ∙ shape s (count_of s) (omega (arith, f.reaches, f.end)) in
    let w : ends_in_sum (get_or s 1 0 ∷ get_or s 2 0 ∷ r) ≡ true = ap (λ (l : List ℕ). ends_in_sum (drop 1 l)) (sym p) ∙ t.1 in
    let m : length (get_or s 1 0 ∷ get_or s 2 0 ∷ r) - 1 ≡ suc (suc (count_of s)) = omega (arith, lr) in
    let q : take (length (get_or s 1 0 ∷ get_or s 2 0 ∷ r) - 1) (get_or s 1 0 ∷ get_or s 2 0 ∷ r) ≡ byte_of a ∷ head_of c d ∷ d =
    rw (m, take-take (count_of s) (suc (count_of s)) (drop 3 s) (omega arith)) (cc (eb, eh)) in
    p ∙ cc (f.header, ap (λ (l : List ℕ). with_sum l) q, ends_shape (get_or s 1 0 ∷ get_or s 2 0 ∷ r) w)

-- and, where it has room, what the builder writes from them
pub accepted_written : (s : List ℕ) (a : Address) (c n : ℕ) (out : List ℕ) → AllBytes s → read_of s ≡ whole a c n → n ≤ length out
    → build_of (byte_of a) c (data_part s) out ≡ at_start (take n s) out
unfolding build_of
accepted_written s a c n out b e h =
    let f = read_framing s a c n e in
    let few : length (data_part s) ≤ 15 = omega (arith, data_length s a c n (read_says s a c n e).0, f.end, byte_at s 2 b) in
    let own : length (take n s) ≡ n = length-take-le n s f.reaches in
    rw (le-ltb 15 (length (data_part s)) few, le-ltb 15 c (omega (arith, f.command)), ← (accepted_built s a c n e)) (written_fits (take n s) out (omega arith))

-- so it is read alike whatever follows it
pub read_followed : (s : List ℕ) (a : Address) (c n : ℕ) → read_of s ≡ whole a c n → (more : List ℕ) → read_of (take n s ++ more) ≡ whole a c n
read_followed s a c n e more =
    let f = read_framing s a c n e in
    let k : address_of (byte_of a) ≡ a = ap (λ (b : Address). address_of (byte_of b)) (sym f.address) ∙ ap address_of (byte_address (get_or s 1 0)) ∙ f.address in
    ap (λ (l : List ℕ). read_of (l ++ more)) (accepted_built s a c n e)
    ∙ built_reads (byte_of a) c (data_part s) more (omega (arith, f.command))
    ∙ cc (k, data_length s a c n (read_says s a c n e).0)

pub data_followed : (s : List ℕ) (a : Address) (c n : ℕ) → read_of s ≡ whole a c n → (more : List ℕ) → data_part (take n s ++ more) ≡ data_part s
data_followed s a c n e more =
    ap (λ (l : List ℕ). data_part (l ++ more)) (accepted_built s a c n e)
    ∙ built_data (byte_of a) c (data_part s) more (omega (arith, (read_framing s a c n e).command))

-- ---- damaged packets: one byte other than header and command byte is changed

pos : (n : ℕ) → (n ≡ 0 → ⊥) → 0 < n
pos zero f = absurd (f refl)
pos (suc n) f = omega arith

-- the sum is wrong
pub damaged_spoilt : (p q : List ℕ) → is_intact p ≡ true → Damaged p q → is_intact q ≡ false
unfolding is_intact
damaged_spoilt p q e d =
    let v = d.change in
    let j : ℕ = d.at - 1 in
    let y : d.at ≡ 1 + j = omega (arith, pos d.at d.not_header) in
    let g : get_or (drop 1 p) j 0 ≡ get_or p d.at 0 = get_or-drop 1 p j 0 ∙ ap (λ (i : ℕ). get_or p i 0) (sym y) in
    let x : drop 1 q ≡ set (drop 1 p) j v.value =
    ap (drop 1) v.result ∙ ap (λ (i : ℕ). drop 1 (set p i v.value)) y ∙ drop-set-add 1 p j v.value in
    let w : Changed j (drop 1 p) (drop 1 q) =
    record {
      value = v.value;
      inside = omega (arith, length-drop 1 p, v.inside);
      was = omega (arith, v.was);
      byte = v.byte;
      other = λ z. v.other (z ∙ g);
      result = x;
    } in
    changed_breaks w e

-- a packet that reads, with one of its own bytes changed
module _ (s t : List ℕ) (a : Address) (c n : ℕ) (e : read_of s ≡ whole a c n) (d : Damaged s t) (own : d.at < n) where
  kept : (j : ℕ) → (j ≡ d.at → ⊥) → get_or t j 0 ≡ get_or s j 0
  kept j h = ap (λ (l : List ℕ). get_or l j 0) d.change.result ∙ get_or-set_other s d.at j d.change.value 0 h

  -- frame, command and end stay, with the address that is there now
  pub damaged_frames : frame_of t ≡ whole (address_of (get_or t 1 0)) c n
  damaged_frames =
      let f = read_framing s a c n e in
      let g : get_or t 2 0 ≡ get_or s 2 0 = kept 2 (λ y. d.not_command (sym y)) in
      let x : get_or t 0 0 ≡ get_or s 0 0 = kept 0 (λ y. d.not_header (sym y)) in
      let k : command_of t ≡ c = ap (λ (y : ℕ). y % 16) g ∙ f.command in
      let m : end_of t ≡ n = ap (λ (y : ℕ). 4 + y / 16) g ∙ f.end in
      frames t (omega (arith, changed_length d.change, f.reaches)) (x ∙ f.header) ∙ cc (k, m)

  -- its own bytes are damaged likewise
  within : Damaged (take n s) (take n t)
  within =
      let v = d.change in
      let g : get_or (take n s) d.at 0 ≡ get_or s d.at 0 = get_or-take n s d.at 0 own in
      record {
        at = d.at;
        change = record {
          value = v.value;
          inside = omega (arith, length-take n s, own, v.inside);
          was = omega (arith, v.was);
          byte = v.byte;
          other = λ z. v.other (z ∙ g);
          result = ap (take n) v.result ∙ take-set-lt n s d.at v.value own;
        };
        not_header = d.not_header;
        not_command = d.not_command;
      }

  pub damaged_reads : read_of t ≡ Err Sum
  damaged_reads = reads_not t _ c n damaged_frames (damaged_spoilt (take n s) (take n t) (read_says s a c n e).1 within)
