-- What a choice by a test tells where one of its branches is ruled out or both are alike, and what two tests tell.
use mathlib.Core.Bool.{Bool, true, false, cond, ◌&&◌, ◌||◌, false≢true, true≢false}
use mathlib.Core.Path.{◌≡◌, refl}

-- the second branch is ruled out: the test held
pub chose_first : {A : Type 0} (t : Bool) {x y z : A} → cond t x y ≡ z → (y ≡ z → ⊥) → (t ≡ true) × (x ≡ z)
chose_first true e n = (refl, e)
chose_first false e n = absurd (n e)

-- the first branch is ruled out: the test failed
pub chose_second : {A : Type 0} (t : Bool) {x y z : A} → cond t x y ≡ z → (x ≡ z → ⊥) → (t ≡ false) × (y ≡ z)
chose_second true e n = absurd (n e)
chose_second false e n = (refl, e)

-- two branches that are alike
pub same : {A : Type 0} (t : Bool) (a : A) → cond t a a ≡ a
same true a = refl
same false a = refl

-- two tests that both hold
pub both : (t u : Bool) → (t && u) ≡ true → (t ≡ true) × (u ≡ true)
both true u e = (refl, e)
both false u e = absurd (false≢true e)

-- and two that both fail
pub neither : (t u : Bool) → (t || u) ≡ false → (t ≡ false) × (u ≡ false)
neither true u e = absurd (true≢false e)
neither false u e = (refl, e)
