-- The word and the space, byte by byte.
use Rattle.std.proofs.Common.{◌≡◌, ◌∙◌, ℕ, List, [], ◌∷◌, refl, sym, arith, length, Bool, true, false, cond, not, eqb, ◌&&◌}
use mathlib.Core.Bool.{false≢true}
use borrow.Author.Tests.{eq-eqb, ne_eqb, eqb-true, le-ltb}
use Rattle.std.specs.List.{starts_with}
use Rattle.sheet.specs.Line.{starts_hex}
use Rattle.sheet.proofs.line.starts_hex.Goals as goal

flip : (x y : ℕ) → eqb x y ≡ eqb y x
flip x y = go (eqb y x) refl
  where
    go : (t : Bool) → eqb y x ≡ t → eqb x y ≡ t
    go true e = eq-eqb x y (sym (eqb-true y x e))
    go false e = ne_eqb x y (λ q. false≢true (sym e ∙ eq-eqb y x (sym q)))

never : (p q r : Bool) → (p && (q && (r && false))) ≡ false
never true true true = refl
never true true false = refl
never true false r = refl
never false q r = refl

four : (p q r t : Bool) → (p && (q && (r && (t && true)))) ≡ cond (not p) false (cond (not q) false (cond (not r) false t))
four true true true true = refl
four true true true false = refl
four true true false t = refl
four true false r t = refl
four false q r t = refl

word : (l : List ℕ) → starts_with eqb l (72 ∷ 69 ∷ 88 ∷ 32 ∷ []) ≡ starts_hex l
unfolding starts_hex
word [] = refl
word (a ∷ []) = never true true (eqb 72 a)
word (a ∷ b ∷ []) = never true (eqb 72 a) (eqb 69 b)
word (a ∷ b ∷ c ∷ []) = never (eqb 72 a) (eqb 69 b) (eqb 88 c)
word (a ∷ b ∷ c ∷ d ∷ l) = rw (le-ltb (length (a ∷ b ∷ c ∷ d ∷ l)) 4 (omega arith), flip 72 a, flip 69 b, flip 88 c, flip 32 d) (four (eqb a 72) (eqb b 69) (eqb c 88) (eqb d 32))

pub returns : goal.returns
returns c = c.starts_with.ensures.value ∙ word c.args.line.now
