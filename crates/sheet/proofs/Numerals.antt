-- Text read numeral by numeral says what the numerals between its spaces say.
use Rattle.std.specs.Prelude.{Option, Some, None}
use Prim.Native.Nat.{ℕ, ◌+◌, ◌*◌, ◌≤◌, ◌<◌}
use mathlib.Core.Bool.{Bool, true, false, cond, false≢true}
use mathlib.Core.List.{List, [], ◌∷◌}
use mathlib.Core.Path.{◌≡◌, refl, sym, ap, ◌∙◌}
use native.Mathlib.Omega.{arith}
use lib.Dec.{eqb, ltb}
use lib.ListN.{length, drop, get_or}
use borrow.Author.Tests.{lt-ltb, le-ltb, eq-eqb, ne_eqb, ltb-true, ltb-false, eqb-true}
use Rattle.wire.proofs.Choice.{same}
use Rattle.text.specs.Lines.{grown}
use Rattle.hexadecimal.specs.Digits.{digit_of}
use Rattle.hexadecimal.specs.Hex.{space, Content, bytes, malformed, before}
use Rattle.sheet.specs.Line.{either_digit, numerals_of, numeral_bytes}
use Rattle.sheet.specs.Reading.{two_numeral, numeral_by, read_numeral}
use Rattle.sheet.specs.declared.line.Numeral.{Numeral}
use Rattle.sheet.specs.declared.line.Numeral.TheVariants.{Last, More}

-- what a numeral makes of what the text behind it says
abbrev pub on_numeral : Option Numeral → Content → Content
on_numeral (Some (Last b)) rest = bytes (b ∷ [])
on_numeral (Some (More b n)) rest = before b rest
on_numeral None rest = malformed

-- how many characters it takes, with its space
abbrev pub taken : Option Numeral → ℕ
taken (Some (Last b)) = 0
taken (Some (More b n)) = n
taken None = 0

-- ---- what no numeral begins with, or goes on with

space_none : either_digit space ≡ 16
unfolding either_digit digit_of
space_none = refl

pub digit_no_space : (a : ℕ) → either_digit a ≤ 15 → a ≡ space → ⊥
digit_no_space a h e =
    let z : either_digit a ≡ 16 = ap either_digit e ∙ space_none in
    omega arith

not_first : (a : ℕ) (x : List (List ℕ)) → 15 < either_digit a → numeral_bytes (grown a x) ≡ malformed
not_first a [] h = rw (le-ltb (either_digit a) 16 h)
not_first a ([] ∷ ws) h = rw (le-ltb (either_digit a) 16 h)
not_first a ((b ∷ []) ∷ ws) h = rw (le-ltb (either_digit a) 16 h)
not_first a ((b ∷ c ∷ w) ∷ ws) h = refl

not_second : (a b : ℕ) (x : List (List ℕ)) → 15 < either_digit b → numeral_bytes (grown a (grown b x)) ≡ malformed
not_second a b [] h = rw (le-ltb (either_digit b) 16 h, same {A = ℕ} (ltb (either_digit a) 16) 256)
not_second a b ([] ∷ ws) h = rw (le-ltb (either_digit b) 16 h, same {A = ℕ} (ltb (either_digit a) 16) 256)
not_second a b ((c ∷ w) ∷ ws) h = refl

not_three : (a b c : ℕ) (x : List (List ℕ)) → numeral_bytes (grown a (grown b (grown c x))) ≡ malformed
not_three a b c [] = refl
not_three a b c (w ∷ ws) = refl

-- ---- one digit, two digits

pub one_says : (a : ℕ) (ws : List (List ℕ)) → either_digit a ≤ 15 → numeral_bytes ((a ∷ []) ∷ ws) ≡ before (either_digit a) (numeral_bytes ws)
one_says a ws h = rw (lt-ltb (either_digit a) 16 (omega arith), lt-ltb (either_digit a) 256 (omega arith))

pub two_says : (a b : ℕ) (ws : List (List ℕ)) → either_digit a ≤ 15 → either_digit b ≤ 15
    → numeral_bytes ((a ∷ b ∷ []) ∷ ws) ≡ before (either_digit a * 16 + either_digit b) (numeral_bytes ws)
two_says a b ws h k =
    rw (lt-ltb (either_digit a) 16 (omega arith), lt-ltb (either_digit b) 16 (omega arith), lt-ltb (either_digit a * 16 + either_digit b) 256 (omega arith))

-- ---- the text by its first numeral

abbrev Says : List ℕ → Option Numeral → Type 0
Says s n = numeral_bytes (numerals_of s) ≡ on_numeral n (numeral_bytes (numerals_of (drop (taken n) s)))

two_step : (a b : ℕ) (s : List ℕ) → either_digit a ≤ 15 → (b ≡ space → ⊥) → Says (a ∷ b ∷ s) (two_numeral (either_digit a) (either_digit b) (a ∷ b ∷ s))
unfolding two_numeral
two_step a b s h n = by_digit (ltb 15 (either_digit b)) refl s
  where
    ea : eqb a space ≡ false
    ea = ne_eqb a space (digit_no_space a h)

    eb : eqb b space ≡ false
    eb = ne_eqb b space n

    by_third : (c : ℕ) (t : List ℕ) (u : Bool) → eqb c space ≡ u → either_digit b ≤ 15
        → Says (a ∷ b ∷ c ∷ t) (cond u (Some (More (either_digit a * 16 + either_digit b) 3)) None)
    by_third c t true e k = rw (ea, eb, e) (two_says a b (numerals_of t) h k)
    by_third c t false e k = rw (ea, eb, e) (not_three a b c (numerals_of t))

    by_digit : (t : Bool) → ltb 15 (either_digit b) ≡ t → (s : List ℕ)
        → Says (a ∷ b ∷ s) (cond t None (cond (ltb (length (a ∷ b ∷ s)) 3) (Some (Last (either_digit a * 16 + either_digit b))) (cond (eqb (get_or (a ∷ b ∷ s) 2 0) space) (Some (More (either_digit a * 16 + either_digit b) 3)) None)))
    by_digit true e s = rw (ea, eb) (not_second a b (numerals_of s) (ltb-true 15 (either_digit b) e))
    by_digit false e [] = rw (ea, eb) (two_says a b [] h (ltb-false 15 (either_digit b) e))
    by_digit false e (c ∷ t) =
        rw (le-ltb (length (a ∷ b ∷ c ∷ t)) 3 (omega arith)) (by_third c t (eqb c space) refl (ltb-false 15 (either_digit b) e))

one_step : (a : ℕ) (s : List ℕ) → (a ≡ space → ⊥) → Says (a ∷ s) (numeral_by (either_digit a) (a ∷ s))
unfolding numeral_by
one_step a s n = by_digit (ltb 15 (either_digit a)) refl s
  where
    ea : eqb a space ≡ false
    ea = ne_eqb a space n

    by_second : (b : ℕ) (t : List ℕ) (u : Bool) → eqb b space ≡ u → either_digit a ≤ 15
        → Says (a ∷ b ∷ t) (cond u (Some (More (either_digit a) 2)) (two_numeral (either_digit a) (either_digit b) (a ∷ b ∷ t)))
    by_second b t true e k = rw (ea, e) (one_says a (numerals_of t) k)
    by_second b t false e k = two_step a b t k (λ z. false≢true (sym e ∙ eq-eqb b space z))

    by_digit : (t : Bool) → ltb 15 (either_digit a) ≡ t → (s : List ℕ)
        → Says (a ∷ s) (cond t None (cond (ltb (length (a ∷ s)) 2) (Some (Last (either_digit a))) (cond (eqb (get_or (a ∷ s) 1 0) space) (Some (More (either_digit a) 2)) (two_numeral (either_digit a) (either_digit (get_or (a ∷ s) 1 0)) (a ∷ s)))))
    by_digit true e s = rw ea (not_first a (numerals_of s) (ltb-true 15 (either_digit a) e))
    by_digit false e [] = rw ea (one_says a [] (ltb-false 15 (either_digit a) e))
    by_digit false e (b ∷ t) =
        rw (le-ltb (length (a ∷ b ∷ t)) 2 (omega arith)) (by_second b t (eqb b space) refl (ltb-false 15 (either_digit a) e))

-- a text says what its first numeral and the text behind it say
pub numeral_step : (s : List ℕ) → Says s (read_numeral s)
unfolding read_numeral numeral_by
numeral_step [] = refl
numeral_step (a ∷ s) = rw (le-ltb (length (a ∷ s)) 1 (omega arith)) (by_space (eqb a space) refl)
  where
    by_space : (t : Bool) → eqb a space ≡ t → Says (a ∷ s) (numeral_by (either_digit a) (a ∷ s))
    by_space true e = rw (e, eqb-true a space e, space_none)
    by_space false e = one_step a s (λ z. false≢true (sym e ∙ eq-eqb a space z))
