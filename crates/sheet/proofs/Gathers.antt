-- A line, as the code reads it.
use Prim.Native.Nat.{ℕ, suc, ◌+◌, ◌-◌, ◌*◌, ◌/◌, ◌≤◌, ◌<◌}
use Rattle.std.specs.Prelude.{Option, Some, None, ℕ}
use mathlib.Core.Bool.{Bool, true, false, cond, false≢true}
use mathlib.Core.List.{List, [], ◌∷◌}
use mathlib.Core.Path.{◌≡◌, refl, sym, ap, ◌∙◌}
use native.Mathlib.Omega.{arith}
use native.Mathlib.Nat.{zero-add, not-suc-le-zero}
use lib.Dec.{eqb, ltb}
use lib.ListN.{length, drop, get_or, set, length-drop, length-set}
use lib.Seq.{drop-drop, sets, get_or-set_same, get_or-set_other}
use borrow.Author.Tests.{eq-eqb, ne_eqb, ltb-false, eqb-true}
use Rattle.wire.proofs.Impossible.{impossible}
use Rattle.hexadecimal.specs.Hex.{space, Content, bytes, malformed}
use Rattle.hexadecimal.specs.Gathering.{Gathered, whole, none, gathered, read_pairs}
use Rattle.hexadecimal.proofs.Storing.{laid_before}
use Rattle.sheet.specs.Line.{starts_hex, either_digit, numerals_of, numeral_bytes, right_count, line_in}
use Rattle.sheet.specs.Reading.{two_numeral, numeral_by, read_numeral, read_numerals, counted_by, read_counted, read_line}
use Rattle.sheet.specs.declared.line.Numeral.{Numeral}
use Rattle.sheet.specs.declared.line.Numeral.TheVariants.{Last, More}
use Rattle.sheet.proofs.Numerals.{numeral_step}

-- ---- a numeral

-- a numeral that isn't the last has at least a digit and a space
record Going (s : List ℕ) (n : ℕ) : Type 0 where
  pub on : 2 ≤ n
  pub within : n ≤ length s

going_two : (high low v n : ℕ) (s : List ℕ) → two_numeral high low s ≡ Some (More v n) → Going s n
unfolding two_numeral
going_two high low v n s e = go (ltb 15 low) (ltb (length s) 3) (eqb (get_or s 2 0) space) refl e
  where
    go : (t u w : Bool) → ltb (length s) 3 ≡ u → cond t None (cond u (Some (Last (high * 16 + low))) (cond w (Some (More (high * 16 + low) 3)) None)) ≡ Some (More v n) → Going s n
    go true u w k e = impossible cc
    go false true w k e = impossible cc
    go false false true k e = let z : n ≡ 3 = cc in let m : 3 ≤ length s = ltb-false (length s) 3 k in record { on = omega arith; within = omega arith }
    go false false false k e = impossible cc

going_by : (high v n : ℕ) (s : List ℕ) → numeral_by high s ≡ Some (More v n) → Going s n
unfolding numeral_by
going_by high v n s e = go (ltb 15 high) (ltb (length s) 2) (eqb (get_or s 1 0) space) refl e
  where
    go : (t u w : Bool) → ltb (length s) 2 ≡ u
        → cond t None (cond u (Some (Last high)) (cond w (Some (More high 2)) (two_numeral high (either_digit (get_or s 1 0)) s))) ≡ Some (More v n) → Going s n
    go true u w k e = impossible cc
    go false true w k e = impossible cc
    go false false true k e = let z : n ≡ 2 = cc in let m : 2 ≤ length s = ltb-false (length s) 2 k in record { on = omega arith; within = omega arith }
    go false false false k e = going_two high (either_digit (get_or s 1 0)) v n s e

going : (s : List ℕ) (v n : ℕ) → read_numeral s ≡ Some (More v n) → Going s n
unfolding read_numeral
going s v n e = go (ltb (length s) 1) e
  where
    go : (t : Bool) → cond t None (numeral_by (either_digit (get_or s 0 0)) s) ≡ Some (More v n) → Going s n
    go true e = impossible cc
    go false e = going_by (either_digit (get_or s 0 0)) v n s e

-- ---- the loop: what is gathered from here on is what was to be gathered

module _ (line : List ℕ) (at i : ℕ) (r out : List ℕ) (p : Option Numeral) (w : Gathered) (e : r ≡ drop at line) (f : p ≡ read_numeral r)
    (inv : read_pairs (numeral_bytes (numerals_of (drop at line))) i out ≡ w) where
  pub numerals_bad : p ≡ None → none ≡ w
  numerals_bad g = rw (numeral_step (drop at line), ← e, ← f, g) at inv

  pub numerals_last : (q : Numeral) (v : ℕ) (m : List ℕ) → p ≡ Some q → q ≡ Last v → m ≡ set out i v → whole (i + 1) m ≡ w
  numerals_last q v m d g k = rw k (rw (numeral_step (drop at line), ← e, ← f, d, g) at inv)

  pub numerals_more : (q : Numeral) (v n : ℕ) (m : List ℕ) → p ≡ Some q → q ≡ More v n → m ≡ set out i v → read_pairs (numeral_bytes (numerals_of (drop (at + n) line))) (i + 1) m ≡ w
  numerals_more q v n m d g k =
      rw k (sym (laid_before v i out (numeral_bytes (numerals_of (drop (at + n) line))))
      ∙ (rw (numeral_step (drop at line), ← e, ← f, d, g, e, drop-drop n at line) at inv))

module _ (line : List ℕ) (at v n : ℕ) (r : List ℕ) (p : Option Numeral) (q : Numeral) (e : r ≡ drop at line) (f : p ≡ read_numeral r) (d : p ≡ Some q) (g : q ≡ More v n) where
  goes : Going (drop at line) n
  goes = going (drop at line) v n (rw (← e, ← g) (sym f ∙ d))

  pub more_fits : at ≤ length line → at + n ≤ length line
  more_fits h = omega (arith, goes.within, length-drop at line)

  pub more_few : (i : ℕ) → i ≤ at → i + 1 ≤ at + n
  more_few i h = omega (arith, goes.on)

  pub more_less : length line - (at + n) < length line - at
  more_less = omega (arith, goes.on, goes.within, length-drop at line)

-- ---- what was gathered says what the text says

pub gathered_none : (c : Content) (o : List ℕ) → none ≡ read_pairs c 0 o → c ≡ malformed
gathered_none malformed o e = refl
gathered_none (bytes d) o e = impossible cc

pub record Heard (c : Content) (o : List ℕ) (n : ℕ) (m : List ℕ) : Type 0 where
  pub said : List ℕ
  pub is : c ≡ bytes said
  pub long : n ≡ length said
  pub stored : m ≡ sets o 0 said

pub gathered_whole : (c : Content) (o : List ℕ) (n : ℕ) (m : List ℕ) → whole n m ≡ read_pairs c 0 o → Heard c o n m
gathered_whole malformed o n m e = impossible cc
gathered_whole (bytes d) o n m e =
    let k : n ≡ 0 + length d = cc in
    record { said = d; is = refl; long = k ∙ zero-add (length d); stored = cc }

-- ---- the count

-- what is stored behind a byte leaves it
sets_behind : (d l : List ℕ) (i j : ℕ) → j < i → get_or (sets l i d) j 0 ≡ get_or l j 0
sets_behind [] l i j h = refl
sets_behind (v ∷ d) l i j h = sets_behind d (set l i v) (suc i) j (omega arith) ∙ get_or-set_other l i j v 0 (λ z. omega arith)

pub second : (d l : List ℕ) → 2 ≤ length d → 2 ≤ length l → get_or (sets l 0 d) 1 0 ≡ get_or d 1 0
second [] l h k = absurd (not-suc-le-zero h)
second (x ∷ []) l h k = absurd (omega arith)
second (x ∷ y ∷ d) l h k =
    sets_behind d (set (set l 0 x) 1 y) 2 1 (omega arith) ∙ get_or-set_same (set l 0 x) 1 y 0 (omega (arith, length-set l 0 x))

module _ (d out m : List ℕ) (r : Option ℕ) (g : gathered r m ≡ read_numerals d out) where
  pub counted_so : (n v : ℕ) (z : Option ℕ) → r ≡ Some n → length out ≡ 17 → v ≡ get_or m 1 0 → z ≡ counted_by n v → gathered z m ≡ read_counted d out
  counted_so n v z f k u e =
      let x = gathered_whole (numeral_bytes (numerals_of d)) out n m (rw f at g) in
      ap (λ (q : Option ℕ). gathered q m) e ∙ by_count x (eqb n (2 + v / 16)) refl ∙ ap (λ (c : Content). read_pairs (right_count c) 0 out) (sym x.is)
    where
      -- the second byte is what was stored there, if there are two
      same_head : (x : Heard (numeral_bytes (numerals_of d)) out n m) → 2 ≤ n → v ≡ get_or x.said 1 0
      same_head x h = u ∙ ap (λ (l : List ℕ). get_or l 1 0) x.stored ∙ second x.said out (omega (arith, x.long)) (omega arith)

      by_count : (x : Heard (numeral_bytes (numerals_of d)) out n m) (t : Bool) → eqb n (2 + v / 16) ≡ t
          → gathered (cond t (Some n) None) m ≡ read_pairs (right_count (bytes x.said)) 0 out
      by_count x true q =
          let y : n ≡ 2 + v / 16 = eqb-true n (2 + v / 16) q in
          let w : get_or x.said 1 0 ≡ v = sym (same_head x (omega arith)) in
          let o : length x.said ≡ 2 + get_or x.said 1 0 / 16 = omega (arith, x.long) in
          (rw f at g) ∙ ap (λ (c : Content). read_pairs c 0 out) x.is
          ∙ rw (eq-eqb (length x.said) (2 + get_or x.said 1 0 / 16) o)
      by_count x false q =
          let o : length x.said ≡ 2 + get_or x.said 1 0 / 16 → ⊥ = λ p.
          let a : 2 ≤ n = omega (arith, x.long) in
          let w : v ≡ get_or x.said 1 0 = same_head x a in
          false≢true (sym q ∙ eq-eqb n (2 + v / 16) (omega (arith, x.long))) in
          rw (ne_eqb (length x.said) (2 + get_or x.said 1 0 / 16) o)

module _ (line out : List ℕ) (ok : Bool) (s : ok ≡ starts_hex line) where
  pub line_other : ok ≡ false → none ≡ read_line line out
  unfolding line_in
  line_other e = rw (sym s ∙ e)

  pub line_read : (d : List ℕ) (w : Gathered) → ok ≡ true → d ≡ drop 4 line → w ≡ read_counted d out → w ≡ read_line line out
  unfolding line_in
  line_read d w t e g = rw (sym s ∙ t, ← e) g
