-- A line of bytes, read pair by pair.
use Prim.Native.Nat.{ℕ, suc, ◌+◌, ◌*◌, ◌≤◌, ◌<◌}
use Rattle.std.specs.Prelude.{Option, Some, None, ℕ}
use mathlib.Core.Bool.{Bool, true, false, cond, false≢true}
use mathlib.Core.List.{List, [], ◌∷◌}
use mathlib.Core.Path.{◌≡◌, refl, sym, ap, ◌∙◌}
use native.Mathlib.Omega.{arith}
use native.Mathlib.Nat.{zero-add, not-suc-le-zero}
use lib.Dec.{eqb, ltb}
use lib.ListN.{length, drop, get_or, set, length-drop}
use lib.Seq.{drop-drop, sets, take-nil}
use borrow.Author.Tests.{le-ltb, ltb-false}
use Rattle.wire.specs.Promise.{Lending, lent}
use Rattle.wire.proofs.Impossible.{impossible}
use Rattle.hexadecimal.specs.Digits.{digit_of}
use Rattle.hexadecimal.specs.Hex.{space, Content, bytes, malformed, pair_by, read_pair, on_pair, packet_in, bytes_in, over, read_bytes, parsed_number}
use Rattle.hexadecimal.specs.Gathering.{Gathered, whole, none, gathered, read_pairs}
use Rattle.hexadecimal.proofs.Storing.{laid_before}
use Rattle.hexadecimal.specs.declared.pairs.Pair.{Pair}
use Rattle.hexadecimal.specs.declared.pairs.Pair.TheVariants.{Last, More}

pub pair_by_lem : (s : List ℕ) (h l : ℕ) (r : Option Pair) → 2 ≤ length s → h ≡ digit_of (get_or s 0 0) → l ≡ digit_of (get_or s 1 0) → r ≡ pair_by h l s → r ≡ read_pair s
unfolding read_pair
pair_by_lem s h l r k e f g = rw (le-ltb (length s) 2 k, ← e, ← f) g

-- ---- the loop: what is laid from here on is what was to be laid

packet_step : (s : List ℕ) → packet_in s ≡ on_pair (read_pair s) (packet_in (drop 3 s))
unfolding read_pair
packet_step [] = refl
packet_step (a ∷ []) = refl
packet_step (a ∷ b ∷ []) = refl
packet_step (a ∷ b ∷ c ∷ s) = refl

module _ (line : List ℕ) (at i : ℕ) (r out : List ℕ) (p : Option Pair) (w : Gathered) (e : r ≡ drop at line) (f : p ≡ read_pair r)
    (inv : read_pairs (packet_in (drop at line)) i out ≡ w) where
  pub pairs_bad : p ≡ None → none ≡ w
  pairs_bad g = rw (packet_step (drop at line), ← e, ← f, g) at inv

  pub pairs_last : (q : Pair) (v : ℕ) (m : List ℕ) → p ≡ Some q → q ≡ Last v → m ≡ set out i v → whole (i + 1) m ≡ w
  pairs_last q v m d g k = rw k (rw (packet_step (drop at line), ← e, ← f, d, g) at inv)

  pub pairs_more : (q : Pair) (v : ℕ) (m : List ℕ) → p ≡ Some q → q ≡ More v → m ≡ set out i v → read_pairs (packet_in (drop (at + 3) line)) (i + 1) m ≡ w
  pairs_more q v m d g k =
      rw k (sym (laid_before v i out (packet_in (drop (at + 3) line)))
      ∙ (rw (packet_step (drop at line), drop-drop 3 at line, ← e, ← f, d, g) at inv))

-- after a pair that isn't the last the line goes on
abbrev is_more : Option Pair → Bool
is_more (Some (More v)) = true
is_more (Some (Last v)) = false
is_more None = false

more_by : (h l : ℕ) (s : List ℕ) → is_more (pair_by h l s) ≡ true → 3 ≤ length s
unfolding pair_by
more_by h l s e = go (ltb 15 h) (ltb 15 l) (ltb (length s) 3) refl e
  where
    go : (t u v : Bool) → ltb (length s) 3 ≡ v
        → is_more (cond t None (cond u None (cond v (Some (Last (h * 16 + l))) (cond (eqb (get_or s 2 0) space) (Some (More (h * 16 + l))) None)))) ≡ true → 3 ≤ length s
    go t u false k e = ltb-false (length s) 3 k
    go true u true k e = absurd (false≢true e)
    go false true true k e = absurd (false≢true e)
    go false false true k e = absurd (false≢true e)

more_long : (s : List ℕ) → is_more (read_pair s) ≡ true → 3 ≤ length s
unfolding read_pair
more_long s e = go (ltb (length s) 2) e
  where
    go : (t : Bool) → is_more (cond t None (pair_by (digit_of (get_or s 0 0)) (digit_of (get_or s 1 0)) s)) ≡ true → 3 ≤ length s
    go true e = absurd (false≢true e)
    go false e = more_by _ _ s e

pub more_fits : (line : List ℕ) (at v : ℕ) (r : List ℕ) (p : Option Pair) (q : Pair) → r ≡ drop at line → p ≡ read_pair r → p ≡ Some q → q ≡ More v → at + 3 ≤ length line
more_fits line at v r p q e f d g =
    let k : 3 ≤ length (drop at line) = more_long (drop at line) (rw (← e, ← f, d, g)) in
    omega (arith, length-drop at line)

-- ---- the whole line

sets_under : (x : ℕ) (l : List ℕ) (i : ℕ) (d : List ℕ) → sets (x ∷ l) (suc i) d ≡ x ∷ sets l i d
sets_under x l i [] = refl
sets_under x l i (v ∷ d) = sets_under x (set l i v) (suc i) d

sets_none : (d : List ℕ) (i : ℕ) → sets [] i d ≡ []
sets_none [] i = refl
sets_none (v ∷ d) i = sets_none d (suc i)

pub sets_over : (l d : List ℕ) → sets l 0 d ≡ over d l
unfolding over
sets_over [] [] = refl
sets_over [] (v ∷ d) = sets_none d 1
sets_over (x ∷ l) [] = refl
sets_over (x ∷ l) (v ∷ d) = sets_under v l 0 d ∙ ap (λ (r : List ℕ). v ∷ r) (sets_over l d)

pub read_empty : (line out : List ℕ) → length line < 1 → Lending parsed_number (Some 0) out (read_bytes (bytes_in line) out)
unfolding over
read_empty [] out h = lent (rw (take-nil (length out)))
read_empty (x ∷ l) out h = absurd (let z : ⊥ = omega arith in z)

-- it was read through over some other buffer first
on_bad : (c : Content) (o out : List ℕ) → none ≡ read_pairs c 0 o → Lending parsed_number None out (read_bytes c out)
on_bad (bytes d) o out e = impossible cc
on_bad malformed o out e = lent refl

on_good : (c : Content) (n : ℕ) (m o out left : List ℕ) (r : Option ℕ) → whole n m ≡ read_pairs c 0 o → gathered r left ≡ read_pairs c 0 out → Lending parsed_number r left (read_bytes c out)
on_good (bytes d) n m o out left (Some k) e f =
    let ek : k ≡ 0 + length d = cc in
    let el : left ≡ sets out 0 d = cc in
    lent (rw (ek, el, zero-add, sets_over out d))
on_good (bytes d) n m o out left None e f = impossible cc
on_good malformed n m o out left r e f = impossible cc

module _ (line o m : List ℕ) (form : Option ℕ) (e : gathered form m ≡ read_pairs (packet_in line) 0 o) where
  pub read_bad : (out : List ℕ) → 1 ≤ length line → form ≡ None → Lending parsed_number None out (read_bytes (bytes_in line) out)
  read_bad out h g = some line h (rw g at e)
    where
      some : (l : List ℕ) → 1 ≤ length l → none ≡ read_pairs (packet_in l) 0 o → Lending parsed_number None out (read_bytes (bytes_in l) out)
      some [] h e = absurd (not-suc-le-zero h)
      some (x ∷ l) h e = on_bad (packet_in (x ∷ l)) o out e

  pub read_good : (n : ℕ) (r : Option ℕ) (out left : List ℕ) → 1 ≤ length line → form ≡ Some n → gathered r left ≡ read_pairs (packet_in line) 0 out
      → Lending parsed_number r left (read_bytes (bytes_in line) out)
  read_good n r out left h g f = some line h (rw g at e) f
    where
      some : (l : List ℕ) → 1 ≤ length l → whole n m ≡ read_pairs (packet_in l) 0 o → gathered r left ≡ read_pairs (packet_in l) 0 out
          → Lending parsed_number r left (read_bytes (bytes_in l) out)
      some [] h e f = absurd (not-suc-le-zero h)
      some (x ∷ l) h e f = on_good (packet_in (x ∷ l)) n m o out left r e f
