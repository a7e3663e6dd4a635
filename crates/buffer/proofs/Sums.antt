-- Laws of sums: bytes that end in their sum, and that one changed byte always breaks it.
use Rattle.std.proofs.Common.{eqb, fold, ◌%◌, ◌≡◌, ℕ, zero, suc, ◌+◌, ◌-◌, ◌<◌, ◌≤◌, true, false, ltb, List, [], ◌∷◌, ◌++◌, length, get_or, take, set, sym, refl, ap, ◌∙◌, ⊎_elim, le_of_suc-le-suc, not-suc-le-zero, eq-or-lt_of_le, arith, length-append, length-set, length-take-le, take_all, get_or-set_other, get_or-take, take-suc, get_or-set_same, ltb-false, le-ltb, eq-eqb, ne_eqb, eqb-true}
use mathlib.Core.Bool.{false≢true}
use lib.Seq.{take-append_seam, get_or-append_seam, take-set-lt, take-set-le}
use Rattle.buffer.specs.Sum.{total, sum_of, with_sum, ends_in_sum}
use Rattle.buffer.specs.Change.{Changed}
use Rattle.wire.proofs.Choice.{chose_second}

total_append : (a b : List ℕ) → total (a ++ b) ≡ total a + total b
unfolding total
total_append [] b = omega arith
total_append (x ∷ a) b = omega (arith, total_append a b)

-- byte by byte, wrapping
pub fold_sum : (s : List ℕ) (a : ℕ) → fold (λ a x. (a + x) % 256) (a % 256) s ≡ (a + total s) % 256
unfolding total
fold_sum [] a = omega arith
fold_sum (x ∷ s) a =
    let e : (a % 256 + x) % 256 ≡ (a + x) % 256 = omega arith in
    rw (e, fold_sum s (a + x)) (omega arith)

-- one byte changed
total_set : (s : List ℕ) (i v : ℕ) → i < length s → total (set s i v) + get_or s i 0 ≡ total s + v
unfolding total
total_set [] i v h = absurd (not-suc-le-zero h)
total_set (x ∷ s) zero v h = omega arith
total_set (x ∷ s) (suc i) v h = omega (arith, total_set s i v (le_of_suc-le-suc h))

pub length_with_sum : (l : List ℕ) → length (with_sum l) ≡ suc (length l)
length_with_sum l = omega (arith, length-append l (sum_of l ∷ []))

-- a last byte, and those before it
pub ends_by : (s l : List ℕ) (x : ℕ) → s ≡ l ++ (x ∷ []) → ends_in_sum s ≡ eqb (sum_of l) x
unfolding ends_in_sum
ends_by s l x e =
    let n = length-append l (x ∷ []) in
    let k : length (l ++ (x ∷ [])) - 1 ≡ length l = omega arith in
    rw e (simp (le-ltb (length (l ++ (x ∷ []))) 1 (omega arith), k, take-append_seam, get_or-append_seam))

-- bytes with their sum behind them end in their sum
pub with_sum_ends : (l : List ℕ) → ends_in_sum (with_sum l) ≡ true
with_sum_ends l = ends_by (with_sum l) l (sum_of l) refl ∙ eq-eqb (sum_of l) (sum_of l) refl

-- what ends in its sum has a last byte, which is the sum of those before it
pub record Ends (s : List ℕ) : Type 0 where
  pub some : 0 < length s
  pub last : sum_of (take (length s - 1) s) ≡ get_or s (length s - 1) 0

pub ends_says : (s : List ℕ) → ends_in_sum s ≡ true → Ends s
unfolding ends_in_sum
ends_says s e =
    let t = chose_second (ltb (length s) 1) e false≢true in
    record { some = ltb-false (length s) 1 t.0; last = eqb-true _ _ t.1 }

-- and is those bytes with their sum behind them
pub ends_shape : (s : List ℕ) → ends_in_sum s ≡ true → s ≡ with_sum (take (length s - 1) s)
ends_shape s e =
    let h = ends_says s e in
    let n : ℕ = length s - 1 in
    rw h.last (sym (take_all (suc n) s (omega arith)) ∙ take-suc s n 0 (omega arith))

not_ends : (s : List ℕ) → 0 < length s → (sum_of (take (length s - 1) s) ≡ get_or s (length s - 1) 0 → ⊥) → ends_in_sum s ≡ false
unfolding ends_in_sum
not_ends s h f = simp (le-ltb (length s) 1 h, ne_eqb _ _ f)

-- the changed byte is the last, or one before it
module _ (s : List ℕ) (i v : ℕ) (h : i < length s) (b : get_or s i 0 < 256) (w : v < 256) (d : v ≡ get_or s i 0 → ⊥) (q : Ends s) where
  changed_last : length s - 1 ≤ i → sum_of (take (length s - 1) (set s i v)) ≡ get_or (set s i v) (length s - 1) 0 → ⊥
  changed_last k e =
      let n : length s - 1 ≡ i = omega arith in
      let g : get_or (set s i v) (length s - 1) 0 ≡ v = rw n (get_or-set_same s i v 0 h) in
      let l : sum_of (take (length s - 1) s) ≡ get_or s i 0 = q.last ∙ ap (λ (j : ℕ). get_or s j 0) n in
      let t : total (take (length s - 1) (set s i v)) ≡ total (take (length s - 1) s) = ap total (take-set-le (length s - 1) s i v k) in
      d (omega arith)

  changed_before : i < length s - 1 → sum_of (take (length s - 1) (set s i v)) ≡ get_or (set s i v) (length s - 1) 0 → ⊥
  changed_before k e =
      let n : length s - 1 ≡ i → ⊥ = λ z. omega arith in
      let g : get_or (set s i v) (length s - 1) 0 ≡ get_or s (length s - 1) 0 = get_or-set_other s i (length s - 1) v 0 n in
      let t : total (take (length s - 1) (set s i v)) ≡ total (set (take (length s - 1) s) i v) = ap total (take-set-lt (length s - 1) s i v k) in
      let c = total_set (take (length s - 1) s) i v (rw (length-take-le (length s - 1) s (omega arith)) k) in
      let x : get_or (take (length s - 1) s) i 0 ≡ get_or s i 0 = get_or-take (length s - 1) s i 0 k in
      let l = q.last in
      d (omega arith)

  set_breaks : ends_in_sum (set s i v) ≡ false
  set_breaks =
      let e = length-set s i v in
      not_ends (set s i v) (omega arith) (rw e (⊎_elim (λ z. changed_last (omega arith)) changed_before (eq-or-lt_of_le {n = i} {m = length s - 1} (omega arith))))

-- a change keeps the length
pub changed_length : {i : ℕ} {s t : List ℕ} → Changed i s t → length t ≡ length s
changed_length {i} {s} c = ap length c.result ∙ length-set s i c.value

-- bytes that ended in their sum no longer do, once one of them is changed
pub changed_breaks : {i : ℕ} {s t : List ℕ} → Changed i s t → ends_in_sum s ≡ true → ends_in_sum t ≡ false
changed_breaks {i} {s} c e =
    ap ends_in_sum c.result ∙ set_breaks s i c.value c.inside c.was c.byte c.other (ends_says s e)
