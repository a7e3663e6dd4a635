-- Wide values among data bytes: they come back from their bytes, and their bytes from them, wherever they stand.
use Prim.Native.Nat.{ℕ, suc, ◌+◌, ◌*◌, ◌/◌, ◌%◌, ◌<◌, ◌≤◌}
use mathlib.Core.Bool.{Bool, true, false, cond}
use mathlib.Core.List.{List, [], ◌∷◌, ◌++◌}
use mathlib.Core.Path.{◌≡◌, refl, sym, ap, ◌∙◌}
use native.Mathlib.Omega.{arith}
use lib.Dec.{eqb}
use lib.ListN.{length, get_or, drop, drop_of_length-le}
use lib.Seq.{drop-cons, drop-length, get_or-append-add}
use borrow.Author.Tests.{eqb-true, eqb-false}
use Rattle.buffer.specs.Change.{AllBytes}
use Rattle.buffer.specs.Wide.{word_of, long_of}
use Rattle.buffer.proofs.Bytes.{byte_at}
use Rattle.codec.specs.Reading.{word_at, long_at, long_if, byte_if}
use Rattle.codec.specs.Build.{word_bytes, long_bytes, bytes_if}

-- ---- from bytes

pub word_back : (w : ℕ) → word_of (w % 256) (w / 256) ≡ w
word_back w = omega arith

long_back : (v : ℕ) → long_of (v % 256) (v / 256 % 256) (v / 65536 % 256) (v / 16777216) ≡ v
long_back v = omega arith

-- what stands behind p
from : (p q : List ℕ) (n i : ℕ) → n ≡ length p → get_or (p ++ q) (n + i) 0 ≡ get_or q i 0
from p q n i e = rw e (get_or-append-add p q i 0)

-- a value that isn't brought is 0
module _ (l p more : List ℕ) (v n : ℕ) (e : n ≡ length p) where
  pub long_comes : (b : Bool) → (b ≡ false → v ≡ 0) → l ≡ p ++ (bytes_if b (long_bytes v) ++ more) → long_if b l n ≡ v
  long_comes true z el =
      let q = long_bytes v ++ more in
      let first : n ≡ n + 0 = omega arith in
      rw (el, from p q n 1 e, from p q n 2 e, from p q n 3 e, ap (λ (k : ℕ). get_or (p ++ q) k 0) first, from p q n 0 e) (long_back v)
  long_comes false z el = sym (z refl)

  pub byte_comes : (b : Bool) → (b ≡ false → v ≡ 0) → l ≡ p ++ (bytes_if b (v ∷ []) ++ more) → byte_if b l n ≡ v
  byte_comes true z el =
      let first : n ≡ n + 0 = omega arith in
      rw el (ap (λ (k : ℕ). get_or (p ++ (v ∷ more)) k 0) first ∙ from p (v ∷ more) n 0 e)
  byte_comes false z el = sym (z refl)

-- ---- and to them

module _ (a b : ℕ) (ha : a < 256) where
  low : word_of a b % 256 ≡ a
  low = omega arith

  high : word_of a b / 256 ≡ b
  high = omega arith

  word_digits : word_bytes (word_of a b) ≡ a ∷ b ∷ []
  word_digits = rw (low, high)

module _ (a b c e : ℕ) (ha : a < 256) (hb : b < 256) (hc : c < 256) where
  digit0 : long_of a b c e % 256 ≡ a
  digit0 = omega arith

  digit1 : long_of a b c e / 256 % 256 ≡ b
  digit1 = omega arith

  digit2 : long_of a b c e / 65536 % 256 ≡ c
  digit2 = omega arith

  digit3 : long_of a b c e / 16777216 ≡ e
  digit3 = omega arith

  digits : long_bytes (long_of a b c e) ≡ a ∷ b ∷ c ∷ e ∷ []
  digits = rw (digit0, digit1, digit2, digit3)

-- from n to m there is one byte, a word, a value of four bytes
module _ (d : List ℕ) where
  pub byte_from : (n m : ℕ) → m ≡ n + 1 → m ≤ length d → get_or d n 0 ∷ drop m d ≡ drop n d
  byte_from n m e l = let s : suc n ≡ m = omega arith in sym (rw s at (drop-cons d n 0 (omega arith)))

  pub word_from : (n m : ℕ) → m ≡ n + 2 → m ≤ length d → AllBytes d → word_bytes (word_at d n) ++ drop m d ≡ drop n d
  word_from n m e l h =
      ap (λ (k : List ℕ). k ++ drop m d) (word_digits (get_or d n 0) (get_or d (n + 1) 0) (byte_at d n h))
      ∙ (ap (λ (k : List ℕ). get_or d n 0 ∷ k) (byte_from (n + 1) m (omega arith) l) ∙ byte_from n (n + 1) refl (omega arith))

  long_from : (n m : ℕ) → m ≡ n + 4 → m ≤ length d → AllBytes d → long_bytes (long_at d n) ++ drop m d ≡ drop n d
  long_from n m e l h =
      ap (λ (k : List ℕ). k ++ drop m d)
      (digits (get_or d n 0) (get_or d (n + 1) 0) (get_or d (n + 2) 0) (get_or d (n + 3) 0) (byte_at d n h) (byte_at d (n + 1) h) (byte_at d (n + 2) h))
      ∙ (ap (λ (k : List ℕ). get_or d n 0 ∷ get_or d (n + 1) 0 ∷ get_or d (n + 2) 0 ∷ k) (byte_from (n + 3) m (omega arith) l)
      ∙ ap (λ (k : List ℕ). get_or d n 0 ∷ get_or d (n + 1) 0 ∷ k) (byte_from (n + 2) (n + 3) (omega arith) (omega arith))
      ∙ ap (λ (k : List ℕ). get_or d n 0 ∷ k) (byte_from (n + 1) (n + 2) (omega arith) (omega arith))
      ∙ byte_from n (n + 1) refl (omega arith))

  -- a value that is brought, or not
  pub long_if_from : (b : Bool) (n m : ℕ) → m ≡ n + cond b 4 0 → m ≤ length d → AllBytes d → bytes_if b (long_bytes (long_if b d n)) ++ drop m d ≡ drop n d
  long_if_from true n m e l h = long_from n m e l h
  long_if_from false n m e l h = let s : m ≡ n = omega arith in rw s

  -- up to the end
  pub long_if_ends : (b : Bool) (n : ℕ) → length d ≡ n + cond b 4 0 → AllBytes d → bytes_if b (long_bytes (long_if b d n)) ≡ drop n d
  long_if_ends true n e h = rw (drop-length d) at (long_from n (length d) e (omega arith) h)
  long_if_ends false n e h = sym (drop_of_length-le d {i = n} (omega arith))

  pub byte_if_ends : (b : Bool) (n : ℕ) → length d ≡ n + cond b 1 0 → bytes_if b (byte_if b d n ∷ []) ≡ drop n d
  byte_if_ends true n e = rw (drop-length d) at (byte_from n (length d) e (omega arith))
  byte_if_ends false n e = sym (drop_of_length-le d {i = n} (omega arith))

-- ---- a bit of a byte, as a number and as a test

pub four_by : (c : ℕ) → c % 2 * 4 ≡ cond (eqb (c % 2) 1) 4 0
four_by c = go (eqb (c % 2) 1) refl
  where
    go : (b : Bool) → eqb (c % 2) 1 ≡ b → c % 2 * 4 ≡ cond b 4 0
    go true e = omega (arith, eqb-true (c % 2) 1 e)
    go false e = let n = eqb-false (c % 2) 1 e in omega arith

pub one_by : (c : ℕ) → c % 2 ≡ cond (eqb (c % 2) 1) 1 0
one_by c = go (eqb (c % 2) 1) refl
  where
    go : (b : Bool) → eqb (c % 2) 1 ≡ b → c % 2 ≡ cond b 1 0
    go true e = omega (arith, eqb-true (c % 2) 1 e)
    go false e = let n = eqb-false (c % 2) 1 e in omega arith

-- how many bytes a value has that is brought, or not
pub long_count : (b : Bool) (v : ℕ) → length (bytes_if b (long_bytes v)) ≡ cond b 4 0
long_count true v = refl
long_count false v = refl

pub byte_count_lem : (b : Bool) (v : ℕ) → length (bytes_if b (v ∷ [])) ≡ cond b 1 0
byte_count_lem true v = refl
byte_count_lem false v = refl
