-- Text written one part behind the other.
use Prim.Native.Nat.{ℕ, suc, ◌+◌, ◌-◌, ◌*◌, ◌/◌, ◌%◌, ◌≤◌, ◌<◌}
use Rattle.wire.specs.declared.refusal.Refusal.{Refusal}
use Rattle.std.specs.Prelude.{Result, Ok, Err, ℕ}
use Rattle.wire.specs.Numbers.{number_by}
use mathlib.Core.List.{List, [], ◌∷◌, ◌++◌}
use mathlib.Core.Path.{◌≡◌, refl, ap, ◌∙◌}
use native.Mathlib.Omega.{arith}
use native.Mathlib.Nat.{add-zero, not-suc-le-zero}
use native.Mathlib.Numerals.{add-one}
use lib.ListN.{length, drop, get_or, set, length-append, length-drop, length-set, drop_of_length-le}
use lib.Seq.{sets, drop-cons, length-sets}
use Rattle.wire.specs.Promise.{Lending}
use Rattle.buffer.specs.Buffer.{written}
use Rattle.wire.specs.declared.refusal.Refusal.TheVariants.{Room}
use Rattle.buffer.proofs.Writing.{sets_start, no_room, has_room_lem, sets_append}
use Rattle.text.specs.Lines.{newline}
use Rattle.hexadecimal.specs.Digits.{character_of}
use Rattle.hexadecimal.specs.Hex.{space, hex_pair, hex_rest, hex_text, hex_line}

-- ---- a byte

pub pair_put : (out : List ℕ) (at b x y : ℕ) → x ≡ character_of (b / 16) → y ≡ character_of (b % 16) → set (set out at x) (at + 1) y ≡ sets out at (hex_pair b)
pair_put out at b x y e f = rw (e, f, add-one at)

pub pair_room : (out : List ℕ) (at x : ℕ) → at + 2 ≤ length out → at + 1 < length (set out at x)
pair_room out at x h = omega (arith, length-set out at x)

pub next_room : (out : List ℕ) (at x : ℕ) → at + 3 ≤ length out → (at + 1) + 2 ≤ length (set out at x)
next_room out at x h = omega (arith, length-set out at x)

pub next_long : (out left d : List ℕ) (at i x : ℕ) → left ≡ sets (set out at x) i d → length left ≡ length out
next_long out left d at i x e = ap (λ (l : List ℕ). length l) e ∙ length-sets (set out at x) i d ∙ length-set out at x

pub next_put : (out left : List ℕ) (at b : ℕ) → left ≡ sets (set out at space) (at + 1) (hex_pair b) → left ≡ sets out at (space ∷ hex_pair b)
next_put out left at b e = e ∙ ap (λ (i : ℕ). sets (set out at space) i (hex_pair b)) (add-one at)

-- ---- the bytes behind the first: those from i on are still to be written

abbrev pub Going : List ℕ → ℕ → List ℕ → List ℕ → ℕ → Type 0
Going out₀ at bytes out i = sets out (at + 3 * i) (hex_rest (drop i bytes)) ≡ sets out₀ at (hex_rest bytes)

pub rest_start : (out : List ℕ) (at : ℕ) (bytes : List ℕ) → Going out at bytes out 0
rest_start out at bytes = ap (λ (i : ℕ). sets out i (hex_rest bytes)) (add-zero at)

module _ (out₀ : List ℕ) (at : ℕ) (bytes out : List ℕ) (i : ℕ) (g : Going out₀ at bytes out i) where
  pub rest_next : (left : List ℕ) → i < length bytes → left ≡ sets out (at + 3 * i) (space ∷ hex_pair (get_or bytes i 0)) → Going out₀ at bytes left (i + 1)
  unfolding hex_rest
  rest_next left h e =
      let n : at + 3 * (i + 1) ≡ (at + 3 * i) + 3 = omega arith in
      rw (e, n, add-one i)
      (sets_append out (at + 3 * i) (space ∷ hex_pair (get_or bytes i 0)) (hex_rest (drop (suc i) bytes)) ∙ (rw (drop-cons bytes i 0 h) at g))

  pub rest_done : length bytes ≤ i → out ≡ sets out₀ at (hex_rest bytes)
  unfolding hex_rest
  rest_done h = rw (drop_of_length-le bytes h) at g

pub put_long : (out left d : List ℕ) (at n : ℕ) → left ≡ sets out at d → length out ≡ n → length left ≡ n
put_long out left d at n e f = ap (λ (l : List ℕ). length l) e ∙ length-sets out at d ∙ f

-- ---- a whole line

length_rest : (bs : List ℕ) → length (hex_rest bs) ≡ 3 * length bs
unfolding hex_rest
length_rest [] = refl
length_rest (b ∷ bs) = let k : length (hex_rest bs) ≡ 3 * length bs = length_rest bs in omega arith

-- three characters for each byte
pub length_line : (bytes : List ℕ) → 1 ≤ length bytes → length (hex_line bytes) ≡ 3 * length bytes
length_line [] h = absurd (not-suc-le-zero h)
length_line (b ∷ bs) h = omega (arith, length_rest bs, length-append (hex_pair b ++ hex_rest bs) (newline ∷ []))

pub line_empty : (bytes out left : List ℕ) (r : Result ℕ Refusal) → length bytes < 1 → Lending number_by r left (written (newline ∷ []) out)
    → Lending number_by r left (written (hex_line bytes) out)
line_empty [] out left r h p = p
line_empty (b ∷ bs) out left r h p = absurd (let z : ⊥ = omega arith in z)

pub empty_short : (out : List ℕ) → length out < 1 → Lending number_by (Err Room) out (written (newline ∷ []) out)
empty_short out h = no_room (newline ∷ []) out h

pub empty_done : (out : List ℕ) → 1 ≤ length out → Lending number_by (Ok 1) (set out 0 newline) (written (newline ∷ []) out)
empty_done out h = has_room_lem (newline ∷ []) out 1 (set out 0 newline) refl h (sets_start out (newline ∷ []) h)

pub line_room : (bytes out : List ℕ) → 1 ≤ length bytes → length out / 3 < length bytes → Lending number_by (Err Room) out (written (hex_line bytes) out)
line_room bytes out h k = no_room (hex_line bytes) out (omega (arith, length_line bytes h))

-- the first byte, the others, the newline
laid : (x : ℕ) (bs out : List ℕ) → 3 * suc (length bs) ≤ length out
    → set (sets (sets out 0 (hex_pair x)) 2 (hex_rest bs)) (3 * suc (length bs) - 1) newline ≡ hex_line (x ∷ bs) ++ drop (3 * suc (length bs)) out
laid x bs out h =
    let t : List ℕ = hex_text (x ∷ bs) in
    let m : length (hex_line (x ∷ bs)) ≡ 3 * suc (length bs) = length_line (x ∷ bs) (omega arith) in
    let n : 3 * suc (length bs) - 1 ≡ 0 + length t = omega (arith, length_rest bs) in
    ap (λ (l : List ℕ). set l (3 * suc (length bs) - 1) newline) (sets_append out 0 (hex_pair x) (hex_rest bs))
    ∙ ap (λ (i : ℕ). set (sets out 0 t) i newline) n
    ∙ sets_append out 0 t (newline ∷ [])
    ∙ sets_start out (hex_line (x ∷ bs)) (omega arith)
    ∙ ap (λ (i : ℕ). hex_line (x ∷ bs) ++ drop i out) m

pub rest_room : (bytes out a d : List ℕ) → 1 ≤ length bytes → length bytes ≤ length out / 3 → a ≡ sets out 0 (hex_pair (get_or bytes 0 0)) → d ≡ drop 1 bytes
    → 2 + 3 * length d ≤ length a
rest_room bytes out a d h fits e f = rw (e, f) (omega (arith, length-drop 1 bytes, length-sets out 0 (hex_pair (get_or bytes 0 0))))

pub line_long : (out a b d : List ℕ) (x i v : ℕ) → a ≡ sets out 0 (hex_pair x) → b ≡ sets a 2 d → length (set b i v) ≡ length out
line_long out a b d x i v e f = length-set b i v ∙ put_long a b d 2 (length out) f (put_long out a (hex_pair x) 0 (length out) e refl)

pub line_done : (bytes out a d b : List ℕ) → 1 ≤ length bytes → length bytes ≤ length out / 3 → a ≡ sets out 0 (hex_pair (get_or bytes 0 0)) → d ≡ drop 1 bytes
    → b ≡ sets a 2 (hex_rest d) → Lending number_by (Ok (3 * length bytes)) (set b (3 * length bytes - 1) newline) (written (hex_line bytes) out)
line_done [] out a d b h fits e f g = absurd (not-suc-le-zero h)
line_done (x ∷ bs) out a d b h fits e f g =
    has_room_lem (hex_line (x ∷ bs)) out (3 * suc (length bs)) (set b (3 * suc (length bs) - 1) newline) (length_line (x ∷ bs) h) (omega arith)
    (rw (g, e, f) (laid x bs out (omega arith)))
