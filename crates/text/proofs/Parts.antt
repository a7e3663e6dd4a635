-- Parts of a text, and its lines.
use Prim.Native.Nat.{ℕ, suc, ◌+◌, ◌≤◌, ◌<◌}
use mathlib.Core.Bool.{Bool, true, false, cond}
use mathlib.Core.List.{List, [], ◌∷◌}
use mathlib.Core.Path.{◌≡◌, refl, sym, ap, ◌∙◌}
use native.Mathlib.Omega.{arith}
use native.Mathlib.Nat.{not-suc-le-zero}
use lib.Dec.{eqb, ltb}
use lib.ListN.{length, take, drop, length-drop}
use lib.Seq.{drop-drop, take_all}
use borrow.Author.Tests.{ltb-false}
use Rattle.std.specs.List.{position, position_or_len}
use Rattle.std.specs.Option.{unwrap_or}
use Rattle.std.proofs.lemmas.List.Recursion.{is_position_or_len}
use Rattle.text.specs.Lines.{newline, first_line, lines_of, grown}

-- ---- the first bytes

pub first_all : (s : List ℕ) (n : ℕ) → length s < n → s ≡ take n s
first_all s n h = sym (take_all n s (omega arith))

-- ---- a text is its first line and the lines behind it

take_line : (s : List ℕ) → take (length (first_line s)) s ≡ first_line s
take_line [] = refl
take_line (b ∷ s) = by_test (eqb b newline) refl (take_line s)
  where
    by_test : (t : Bool) → eqb b newline ≡ t → take (length (first_line s)) s ≡ first_line s → take (length (first_line (b ∷ s))) (b ∷ s) ≡ first_line (b ∷ s)
    by_test true e h = rw e
    by_test false e h = rw e (ap (λ (l : List ℕ). b ∷ l) h)

pub line_taken : (s l : List ℕ) (n : ℕ) → n ≡ length (first_line s) → l ≡ take n s → l ≡ first_line s
line_taken s l n e f = f ∙ ap (λ (i : ℕ). take i s) e ∙ take_line s

pub line_short : (s : List ℕ) → length (first_line s) ≤ length s
line_short [] = omega arith
line_short (b ∷ s) = by_test (eqb b newline) (line_short s)
  where
    by_test : (t : Bool) → length (first_line s) ≤ length s → length (cond t [] (b ∷ first_line s)) ≤ length (b ∷ s)
    by_test true h = omega arith
    by_test false h = omega arith

-- s isn't empty
pub lines_step : (s : List ℕ) → 0 < length s → lines_of s ≡ first_line s ∷ lines_of (drop (suc (length (first_line s))) s)
lines_step [] h = absurd (not-suc-le-zero h)
lines_step (b ∷ []) h = by_test (eqb b newline) refl
  where
    by_test : (t : Bool) → eqb b newline ≡ t → lines_of (b ∷ []) ≡ first_line (b ∷ []) ∷ lines_of (drop (suc (length (first_line (b ∷ [])))) (b ∷ []))
    by_test true e = rw e
    by_test false e = rw e
lines_step (b ∷ a ∷ s) h = by_test (eqb b newline) refl (lines_step (a ∷ s) (omega arith))
  where
    by_test : (t : Bool) → eqb b newline ≡ t → lines_of (a ∷ s) ≡ first_line (a ∷ s) ∷ lines_of (drop (suc (length (first_line (a ∷ s)))) (a ∷ s))
        → lines_of (b ∷ a ∷ s) ≡ first_line (b ∷ a ∷ s) ∷ lines_of (drop (suc (length (first_line (b ∷ a ∷ s)))) (b ∷ a ∷ s))
    by_test true e k = rw e
    by_test false e k = rw e (ap (grown b) k)

-- ---- the first newline is where the line ends; where there is none, the text's end is

ends_here : (t : Bool) (b : ℕ) (s : List ℕ) → length (cond t [] (b ∷ first_line s)) ≡ cond t 0 (1 + length (first_line s))
ends_here true b s = refl
ends_here false b s = omega arith

line_ends : (s : List ℕ) → length (first_line s) ≡ position_or_len (λ b. eqb b newline) s
line_ends = is_position_or_len (λ (s : List ℕ). length (first_line s)) (λ b. eqb b newline) refl (λ b s. ends_here (eqb b newline) b s)

pub line_found : (s : List ℕ) → unwrap_or (position (λ b. eqb b newline) s) (length s) ≡ length (first_line s)
line_found s = by_test (ltb (length (first_line s)) (length s)) refl
  where
    by_test : (t : Bool) → ltb (length (first_line s)) (length s) ≡ t → unwrap_or (position (λ b. eqb b newline) s) (length s) ≡ length (first_line s)
    by_test true e = rw (← (line_ends s), e)
    by_test false e = rw (← (line_ends s), e) (omega (arith, line_short s, ltb-false (length (first_line s)) (length s) e))

-- the first line, and what is behind it and its newline
pub lines_first : (s l b d : List ℕ) → 0 < length s → l ≡ first_line s → b ≡ drop (length l) s → d ≡ drop 1 b → lines_of s ≡ l ∷ lines_of d
lines_first s l b d h el eb ed =
    let j : length (first_line s) + 1 ≡ suc (length (first_line s)) = omega arith in
    rw (ed, eb, el, drop-drop 1 (length (first_line s)) s, j) (lines_step s h)

-- each line has a byte of its own: its newline, or one of those behind the last newline
pub lines_few : (s : List ℕ) → length (lines_of s) ≤ length s
lines_few [] = omega arith
lines_few (b ∷ s) = by_test (eqb b newline) (lines_of s) refl (lines_few s)
  where
    by_test : (t : Bool) (ls : List (List ℕ)) → ls ≡ lines_of s → length (lines_of s) ≤ length s → length (cond t ([] ∷ ls) (grown b ls)) ≤ length (b ∷ s)
    by_test true ls e h = rw e (omega arith)
    by_test false [] e h = omega arith
    by_test false (l ∷ ls) e h = omega (arith, ap (λ (x : List (List ℕ)). length x) e)

-- ---- a text gone through line by line: those from i on are still to come

module _ (s d l : List ℕ) (i : ℕ) (h : i < length s) (ed : d ≡ drop i s) (el : l ≡ first_line d) where
  -- a line and its newline
  pub next_line : i + length l + 1 ≤ length s + 1
  next_line = rw (el, ed) (omega (arith, line_short (drop i s), length-drop i s))

  pub lines_next : lines_of (drop i s) ≡ l ∷ lines_of (drop (i + length l + 1) s)
  lines_next =
      let k : 0 < length (drop i s) = omega (arith, length-drop i s) in
      let n : first_line (drop i s) ≡ l = sym (el ∙ ap first_line ed) in
      let j : i + suc (length l) ≡ i + length l + 1 = omega arith in
      let q : drop (suc (length l)) (drop i s) ≡ drop (i + length l + 1) s = drop-drop (suc (length l)) i s ∙ ap (λ (x : ℕ). drop x s) j in
      lines_step (drop i s) k
      ∙ ap (λ (x : List ℕ). x ∷ lines_of (drop (suc (length x)) (drop i s))) n
      ∙ ap (λ (x : List ℕ). l ∷ lines_of x) q
