-- What the definitions mean: a line is of its form exactly if it is what some bytes are written as.
use Rattle.std.specs.Prelude.{Some, None}
use Prim.Native.Nat.{ℕ, ◌+◌, ◌-◌, ◌*◌, ◌/◌, ◌%◌, ◌≤◌, ◌<◌}
use mathlib.Core.Bool.{Bool, true, false, cond}
use mathlib.Core.List.{List, [], ◌∷◌, ◌++◌}
use mathlib.Core.Path.{◌≡◌, refl}
use native.Mathlib.Omega.{arith}
use native.Mathlib.Nat.{not-suc-le-zero}
use lib.Dec.{eqb, ltb}
use lib.ListN.{length}
use borrow.Author.Tests.{lt-ltb, le-ltb, ltb-true, ltb-false, eqb-true}
use Rattle.wire.proofs.Impossible.{impossible}
use Rattle.buffer.specs.Change.{AllBytes}
use Rattle.hexadecimal.specs.Digits.{digit_of, character_of}
use Rattle.hexadecimal.specs.Hex.{space, hex_pair, hex_rest, hex_text, Content, bytes, malformed, pair_by, read_pair, before, on_pair, packet_in, bytes_in}
use Rattle.hexadecimal.specs.declared.pairs.Pair.TheVariants.{Last, More}

-- ---- digits

digit_low : (v : ℕ) → v < 10 → digit_of (48 + v) ≡ v
unfolding digit_of
digit_low v k = rw (le-ltb (48 + v) 48 (omega arith), lt-ltb (48 + v) 58 (omega arith)) (omega arith)

digit_high : (v : ℕ) → 10 ≤ v → v < 16 → digit_of (55 + v) ≡ v
unfolding digit_of
digit_high v k h =
    rw (le-ltb (55 + v) 48 (omega arith), le-ltb (55 + v) 58 (omega arith), le-ltb (55 + v) 65 (omega arith), lt-ltb (55 + v) 71 (omega arith)) (omega arith)

-- the digit of a value has that value
pub digit_char : (v : ℕ) → v < 16 → digit_of (character_of v) ≡ v
unfolding character_of
digit_char v h = go (ltb v 10) refl
  where
    go : (t : Bool) → ltb v 10 ≡ t → digit_of (cond t (48 + v) (55 + v)) ≡ v
    go true e = digit_low v (ltb-true v 10 e)
    go false e = digit_high v (ltb-false v 10 e) h

char_low : (v : ℕ) → v < 10 → character_of v ≡ 48 + v
unfolding character_of
char_low v h = rw (lt-ltb v 10 h)

char_high : (v : ℕ) → 10 ≤ v → character_of v ≡ 55 + v
unfolding character_of
char_high v h = rw (le-ltb v 10 h)

-- a character that has a value is the digit of it
pub char_digit : (b : ℕ) → digit_of b ≤ 15 → character_of (digit_of b) ≡ b
unfolding digit_of
char_digit b h = go (ltb b 48) (ltb b 58) (ltb b 65) (ltb b 71) refl refl refl refl h
  where
    go : (t u v w : Bool) → ltb b 48 ≡ t → ltb b 58 ≡ u → ltb b 65 ≡ v → ltb b 71 ≡ w
        → cond t 16 (cond u (b - 48) (cond v 16 (cond w (b - 55) 16))) ≤ 15
        → character_of (cond t 16 (cond u (b - 48) (cond v 16 (cond w (b - 55) 16)))) ≡ b
    go true u v w et eu ev ew k = absurd (let y : ⊥ = omega arith in y)
    go false true v w et eu ev ew k =
        let x : 48 ≤ b = ltb-false b 48 et in let z : b < 58 = ltb-true b 58 eu in
        rw (char_low (b - 48) (omega arith)) (omega arith)
    go false false true w et eu ev ew k = absurd (let y : ⊥ = omega arith in y)
    go false false false true et eu ev ew k =
        let x : 65 ≤ b = ltb-false b 65 ev in
        rw (char_high (b - 55) (omega arith)) (omega arith)
    go false false false false et eu ev ew k = absurd (let y : ⊥ = omega arith in y)

-- ---- bytes that are written are read

pair_char : (b : ℕ) (s : List ℕ) → b < 256
    → read_pair (character_of (b / 16) ∷ character_of (b % 16) ∷ s) ≡ pair_by (b / 16) (b % 16) (character_of (b / 16) ∷ character_of (b % 16) ∷ s)
unfolding read_pair
pair_char b s h =
    rw (le-ltb (length (character_of (b / 16) ∷ character_of (b % 16) ∷ s)) 2 (omega arith), digit_char (b / 16) (omega arith), digit_char (b % 16) (omega arith))

packet_hex : (b : ℕ) (bs : List ℕ) → b < 256 → AllBytes bs → packet_in (hex_pair b ++ hex_rest bs) ≡ bytes (b ∷ bs)
unfolding hex_rest pair_by
packet_hex b [] h k =
    let e : b / 16 * 16 + b % 16 ≡ b = omega arith in
    rw (pair_char b [] h, le-ltb 15 (b / 16) (omega arith), le-ltb 15 (b % 16) (omega arith), e)
packet_hex b (c ∷ cs) h k =
    let e : b / 16 * 16 + b % 16 ≡ b = omega arith in
    rw (
      pair_char b (space ∷ hex_pair c ++ hex_rest cs) h,
      le-ltb 15 (b / 16) (omega arith),
      le-ltb 15 (b % 16) (omega arith),
      e,
      le-ltb (length (hex_pair b ++ (space ∷ hex_pair c ++ hex_rest cs))) 3 (omega arith),
      packet_hex c cs k.0 k.1,
    )

pub written_reads : (d : List ℕ) → AllBytes d → bytes_in (hex_text d) ≡ bytes d
written_reads [] k = refl
written_reads (b ∷ bs) k = packet_hex b bs k.0 k.1

-- ---- what is read was so written

hex_of : (a b : ℕ) → digit_of a ≤ 15 → digit_of b ≤ 15 → a ∷ b ∷ [] ≡ hex_pair (digit_of a * 16 + digit_of b)
hex_of a b h k =
    let q : (digit_of a * 16 + digit_of b) / 16 ≡ digit_of a = omega arith in
    let r : (digit_of a * 16 + digit_of b) % 16 ≡ digit_of b = omega arith in
    rw (q, r, char_digit a h, char_digit b k)

rest_of : (d : List ℕ) → 1 ≤ length d → hex_rest d ≡ space ∷ hex_text d
unfolding hex_rest
rest_of [] h = absurd (not-suc-le-zero h)
rest_of (x ∷ d) h = refl

record Form (l d : List ℕ) : Type 0 where
  pub same : l ≡ hex_text d
  pub some : 1 ≤ length d
  pub small : AllBytes d

packet_written : (l d : List ℕ) → packet_in l ≡ bytes d → Form l d
unfolding hex_rest read_pair pair_by
packet_written [] d e = impossible cc
packet_written (a ∷ []) d e = impossible cc
packet_written (a ∷ b ∷ []) d e = go (ltb 15 (digit_of a)) (ltb 15 (digit_of b)) refl refl e
  where
    go : (t u : Bool) → ltb 15 (digit_of a) ≡ t → ltb 15 (digit_of b) ≡ u
        → on_pair (cond t None (cond u None (Some (Last (digit_of a * 16 + digit_of b))))) malformed ≡ bytes d → Form (a ∷ b ∷ []) d
    go true u x y e = impossible cc
    go false true x y e = impossible cc
    go false false x y e =
        let z : d ≡ (digit_of a * 16 + digit_of b) ∷ [] = cc in
        let p = ltb-false 15 (digit_of a) x in
        let q = ltb-false 15 (digit_of b) y in
        rw z (record { same = hex_of a b p q; some = omega arith; small = (omega arith, tt) })
packet_written (a ∷ b ∷ c ∷ s) d e =
    go (ltb 15 (digit_of a)) (ltb 15 (digit_of b)) (ltb (length (a ∷ b ∷ c ∷ s)) 3) (eqb c space) refl refl refl refl (packet_written s)
    (rw (le-ltb (length (a ∷ b ∷ c ∷ s)) 2 (omega arith)) at e)
  where
    on : (v : ℕ) (q : Content) → v < 256 → a ∷ b ∷ [] ≡ hex_pair v → c ≡ space → ((m : List ℕ) → q ≡ bytes m → Form s m) → before v q ≡ bytes d → Form (a ∷ b ∷ c ∷ s) d
    on v malformed n h k ih e = impossible cc
    on v (bytes m) n h k ih e =
        let z : d ≡ v ∷ m = cc in
        let f : Form s m = ih m refl in
        let ea : a ≡ character_of (v / 16) = cc in
        let eb : b ≡ character_of (v % 16) = cc in
        rw z (record { same = rw (ea, eb, k, rest_of m f.some, ← f.same); some = omega arith; small = (n, f.small) })

    go : (t u v w : Bool) → ltb 15 (digit_of a) ≡ t → ltb 15 (digit_of b) ≡ u → ltb (length (a ∷ b ∷ c ∷ s)) 3 ≡ v → eqb c space ≡ w
        → ((m : List ℕ) → packet_in s ≡ bytes m → Form s m)
        → on_pair (cond t None (cond u None (cond v (Some (Last (digit_of a * 16 + digit_of b))) (cond w (Some (More (digit_of a * 16 + digit_of b))) None)))) (packet_in s) ≡ bytes d
        → Form (a ∷ b ∷ c ∷ s) d
    go true u v w x y i j ih e = impossible cc
    go false true v w x y i j ih e = impossible cc
    go false false true w x y i j ih e = absurd (let z : length (a ∷ b ∷ c ∷ s) < 3 = ltb-true (length (a ∷ b ∷ c ∷ s)) 3 i in let y : ⊥ = omega arith in y)
    go false false false false x y i j ih e = impossible cc
    go false false false true x y i j ih e =
        let p = ltb-false 15 (digit_of a) x in
        let q = ltb-false 15 (digit_of b) y in
        on (digit_of a * 16 + digit_of b) (packet_in s) (omega arith) (hex_of a b p q) (eqb-true c space j) ih e

-- what a line of its form is
pub record Written (l d : List ℕ) : Type 0 where
  pub same : l ≡ hex_text d
  pub small : AllBytes d

pub read_written : (l d : List ℕ) → bytes_in l ≡ bytes d → Written l d
read_written [] d e = let z : d ≡ [] = cc in rw z (record { same = refl; small = tt })
read_written (a ∷ l) d e = let f = packet_written (a ∷ l) d e in record { same = f.same; small = f.small }
