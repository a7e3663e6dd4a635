-- A status packet that grows in place: an item written by a loop, one item behind another, and the packet that stands there in the end.
use Rattle.std.proofs.Common.{◌≡◌, ℕ, suc, ◌+◌, ◌-◌, ◌/◌, ◌%◌, ◌^◌, ◌<◌, ◌≤◌, Bool, true, false, eqb, List, [], ◌∷◌, ◌++◌, length, get_or, drop, set, sym, refl, ap, ◌∙◌, add-zero, add-one, arith, length-append, length-set, drop_of_length-le, drop-cons, get_or-set_same, set-set, Ok}
use Rattle.wire.specs.Numbers.{number_by}
use lib.Seq.{sets, length-sets, set-get_or}
use Rattle.wire.specs.Promise.{Outcome, Lending}
use Rattle.buffer.specs.Sum.{total}
use Rattle.buffer.specs.Buffer.{written}
use Rattle.buffer.proofs.Writing.{sets_start, has_room_lem}
use Rattle.status.specs.Status.{status_packet}
use Rattle.status.proofs.Replies.{status_length}
use Rattle.mask.proofs.Sizes.{bits_first, bits_next}
use Rattle.reply.specs.Items.{bytes_of, item_of, asked_from}
use Rattle.reply.specs.Grown.{reply_begin, carried_on, Grown}
use Rattle.reply.proofs.Bytes.{bytes_length}

-- ---- one item, byte by byte

-- an item that is asked for has the room that its count needs
pub asked_room : (t : Bool) (n w end m : ℕ) → t ≡ true → end + length (item_of t (bytes_of n w)) < m → end + n < m
asked_room t n w end m e h =
    let k : length (item_of t (bytes_of n w)) ≡ n = rw e (bytes_length n w) in
    omega arith

-- before the first byte
pub none_yet : (o : List ℕ) (end n w s : ℕ) → sets o (end + 0) (carried_on s (bytes_of (n - 0) w)) ≡ sets o end (carried_on s (bytes_of n w))
none_yet o end n w s =
    let e : n - 0 ≡ n = omega arith in
    rw (e, add-zero end)

-- one byte more is written: what is done, then what the rest will give, stays the same
pub byte_more : (o : List ℕ) (end i n w s : ℕ) → i < n
    → sets (set o (end + i) (w % 256)) (end + (i + 1)) (carried_on ((s + w % 256) % 256) (bytes_of (n - (i + 1)) (w / 256))) ≡ sets o (end + i) (carried_on s (bytes_of (n - i) w))
byte_more o end i n w s h =
    let e : n - i ≡ suc (n - (i + 1)) = omega arith in
    let f : end + (i + 1) ≡ suc (end + i) = omega arith in
    rw (e, f)

-- an item that isn't asked for leaves all as it stands
pub left_out : (t : Bool) (d o : List ℕ) (end : ℕ) → t ≡ false → Grown (item_of t d) end o end o
left_out t d o end e = rw e (record { behind = sym (add-zero end); bytes = sym (set-get_or o end 0) })

-- all bytes are written, and the sum behind them
pub all_written : (t : Bool) (o₀ o : List ℕ) (end i n w v s₀ s : ℕ) → t ≡ true → i ≤ n → n ≤ i → s₀ ≡ get_or o₀ end 0
    → sets o (end + i) (carried_on s (bytes_of (n - i) v)) ≡ sets o₀ end (carried_on s₀ (bytes_of n w))
    → Grown (item_of t (bytes_of n w)) end o₀ (end + n) (set o (end + n) s)
all_written t o₀ o end i n w v s₀ s e h k g f =
    let z : n - i ≡ 0 = omega arith in
    let y : i ≡ n = omega arith in
    rw e (record { behind = omega (arith, bytes_length n w); bytes = rw (z, y, g) at f })

-- ---- one item behind another

-- what was carried on to the sum's place is written over it
over : (o : List ℕ) (end s : ℕ) (x : List ℕ) → sets (set o end s) end (carried_on s x) ≡ sets o end (carried_on s x)
over o end s [] = set-set o end s s
over o end s (y ∷ x) = ap (λ (l : List ℕ). sets l (suc end) (carried_on ((s + y) % 256) x)) (set-set o end s y)

-- x behind d: the sum that d left is found, and carried on
carried_then : (d x o : List ℕ) (end s k : ℕ) → k ≡ end + length d → k < length o
    → sets (sets o end (carried_on s d)) k (carried_on (get_or (sets o end (carried_on s d)) k 0) x) ≡ sets o end (carried_on s (d ++ x))
carried_then [] x o end s k e h =
    let f : k ≡ end = e ∙ add-zero end in
    rw (f, get_or-set_same o end s 0 (omega arith)) (over o end s x)
carried_then (y ∷ d) x o end s k e h =
    carried_then d x (set o end y) (suc end) ((s + y) % 256) k (omega arith) (rw (length-set o end y) h)

-- ---- the items, by their counts t and values w, from bit 0 of the mask on

-- the bytes of those from bit i on
abbrev pub still : ℕ → List ℕ → List ℕ → ℕ → List ℕ
still m t w i = asked_from i m (drop i t) (drop i w)

-- i items are passed: those from bit i on are still to be added, and have room; then all were added from `end` on, over o
pub record Passed (m : ℕ) (t w : List ℕ) (end : ℕ) (o out : List ℕ) (bits at i : ℕ) : Type 0 where
  pub counted : length t ≡ 8
  pub valued : length w ≡ 8
  pub left : bits ≡ m / 2 ^ i
  pub ends : at + length (still m t w i) ≡ end + length (asked_from 0 m t w)
  pub room : at + length (still m t w i) < length out
  pub long : length out ≡ length o
  pub bytes : sets out at (carried_on (get_or out at 0) (still m t w i)) ≡ sets o end (carried_on (get_or o end 0) (asked_from 0 m t w))

pub passed_none : (m : ℕ) (t w : List ℕ) (end : ℕ) (o : List ℕ) → length t ≡ 8 → length w ≡ 8 → end + length (asked_from 0 m t w) < length o → Passed m t w end o o m end 0
passed_none m t w end o ht hw h = record { counted = ht; valued = hw; left = bits_first m; ends = refl; room = h; long = refl; bytes = refl }

module _ (m : ℕ) (t w : List ℕ) (end : ℕ) (o out : List ℕ) (bits at i : ℕ) (h : i < 8) (p : Passed m t w end o out bits at i) where
  -- the bytes of item i, as the loop has them: by the bits that are left
  abbrev x : List ℕ
  x = item_of (eqb (bits % 2) 1) (bytes_of (get_or t i 0) (get_or w i 0))

  abbrev d : List ℕ
  d = still m t w (suc i)

  next : still m t w i ≡ x ++ d
  next =
      ap (λ (l : List ℕ). asked_from i m l (drop i w)) (drop-cons t i 0 (omega (arith, p.counted)))
      ∙ ap (asked_from i m (get_or t i 0 ∷ drop (suc i) t)) (drop-cons w i 0 (omega (arith, p.valued)))
      ∙ rw p.left

  long : length (still m t w i) ≡ length x + length d
  long = ap (λ (l : List ℕ). length l) next ∙ length-append x d

  -- the next has room
  pub passed_room : at + length x < length out
  passed_room = omega (arith, p.room, long)

  -- and is added
  pub passed_one : (left : List ℕ) (r : ℕ) → Grown x at out r left → Passed m t w end o left (bits / 2) r (i + 1)
  passed_one left r g =
      let k : length left ≡ length out = ap (λ (l : List ℕ). length l) g.bytes ∙ length-sets out at (carried_on (get_or out at 0) x) in
      let b : sets left r (carried_on (get_or left r 0) d) ≡ sets out at (carried_on (get_or out at 0) (x ++ d)) =
      rw g.bytes (carried_then x d out at (get_or out at 0) r g.behind (omega (arith, p.room, long, g.behind))) in
      rw (add-one i) (record {
        counted = p.counted;
        valued = p.valued;
        left = bits_next m bits i p.left;
        ends = omega (arith, p.ends, long, g.behind);
        room = omega (arith, p.room, long, g.behind);
        long = k ∙ p.long;
        bytes = b ∙ rw (← next) p.bytes;
      })

-- all are passed
pub passed_all : (m : ℕ) (t w : List ℕ) (end : ℕ) (o out : List ℕ) (bits at i : ℕ) → i ≡ 8 → Passed m t w end o out bits at i → Grown (asked_from 0 m t w) end o at out
passed_all m t w end o out bits at i e p =
    let none : still m t w i ≡ [] = ap (λ (l : List ℕ). asked_from i m l (drop i w)) (drop_of_length-le t {i = i} (omega (arith, p.counted))) in
    record { behind = omega (arith, p.ends, ap (λ (l : List ℕ). length l) none); bytes = sym (set-get_or out at 0) ∙ rw none at p.bytes }

-- ---- the whole packet

-- carried on from s, the sum behind some bytes is that of s and of all of them
carried_sum : (s : ℕ) (d : List ℕ) → s < 256 → carried_on s d ≡ d ++ ((s + total d) % 256 ∷ [])
unfolding total
carried_sum s [] h =
    let e : s ≡ (s + 0) % 256 = omega arith in
    ap (λ (x : ℕ). x ∷ []) e
carried_sum s (y ∷ d) h =
    let e : ((s + y) % 256 + total d) % 256 ≡ (s + (y + total d)) % 256 = omega arith in
    ap (λ (l : List ℕ). y ∷ l) (carried_sum ((s + y) % 256) d (omega arith) ∙ ap (λ (x : ℕ). d ++ (x ∷ [])) e)

-- a packet that was begun, with its sum at `at`, and has grown by all its items
module _ (b : ℕ) (out o : List ℕ) (at : ℕ) (s : record { answer = at; left = o } ≡ reply_begin b out) where
  begun_at : at ≡ 1
  begun_at = ap (λ (x : Outcome ℕ (List ℕ)). x.answer) s

  begun_bytes : o ≡ sets out 0 (b ∷ b ∷ [])
  begun_bytes = ap (λ (x : Outcome ℕ (List ℕ)). x.left) s

  -- has room for them where the whole packet has
  pub begun_room : (d : List ℕ) → 2 + length d ≤ length out → at + length d < length o
  begun_room d h = omega (arith, begun_at, ap (λ (l : List ℕ). length l) begun_bytes, length-sets out 0 (b ∷ b ∷ []))

  module _ (d left : List ℕ) (r : ℕ) (g : Grown d at o r left) where
    -- has the length of the whole packet
    pub grown_size : r + 1 ≡ length (status_packet b d)
    grown_size = omega (arith, begun_at, g.behind, status_length b d)

    -- and is it
    pub grown_whole : b < 256 → 2 + length d ≤ length out → Lending number_by (Ok (r + 1)) left (written (status_packet b d) out)
    grown_whole h k =
        let n = status_length b d in
        let e : (0 + b) % 256 ≡ b = omega arith in
        let begun : o ≡ sets out 0 (carried_on 0 (b ∷ [])) = rw e begun_bytes in
        let t : (0 + total (b ∷ d)) % 256 ≡ total (b ∷ d) % 256 = omega arith in
        let packet : carried_on 0 (b ∷ d) ≡ status_packet b d = carried_sum 0 (b ∷ d) (omega arith) ∙ ap (λ (x : ℕ). (b ∷ d) ++ (x ∷ [])) t in
        let whole : left ≡ sets out 0 (status_packet b d) =
        g.bytes ∙ rw begun (carried_then (b ∷ []) d out 0 0 at begun_at (omega (arith, begun_at))) ∙ ap (sets out 0) packet in
        has_room_lem (status_packet b d) out (r + 1) left (sym grown_size) (omega (arith, grown_size))
        (whole ∙ sets_start out (status_packet b d) (omega arith) ∙ ap (λ (i : ℕ). status_packet b d ++ drop i out) (sym grown_size))
