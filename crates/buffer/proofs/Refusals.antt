-- Any number but 0 leaves the lent buffer as it stood.
use Rattle.std.proofs.Common.{◌≡◌, ℕ, Bool, true, false, cond, ltb, List, length, refl, Result}
use Rattle.wire.specs.Promise.{Outcome}
use Rattle.wire.specs.Numbers.{done, number_by}
use Rattle.buffer.specs.Buffer.{at_start, refused, written}
use Rattle.wire.specs.declared.refusal.Refusal.{Refusal}
use Rattle.wire.specs.declared.refusal.Refusal.TheVariants.{Room}

-- o leaves `out` as it stood, unless its number is 0
abbrev pub Spares : List ℕ → Outcome (Result ℕ Refusal) (List ℕ) → Type 0
Spares out o = (number_by o.answer ≡ done → ⊥) → o.left ≡ out

chosen : (t : Bool) (p out : List ℕ) → Spares out (cond t (refused Room out) (at_start p out))
chosen true p out n = refl
chosen false p out n = absurd (n refl)

pub written_spares : (p out : List ℕ) → Spares out (written p out)
unfolding written
written_spares p out = chosen (ltb (length out) (length p)) p out

-- a refusal by a test that comes before
pub test_spares : (t : Bool) (why : Refusal) (out : List ℕ) (o : Outcome (Result ℕ Refusal) (List ℕ)) → Spares out o → Spares out (cond t (refused why out) o)
test_spares true why out o h n = refl
test_spares false why out o h n = h n

-- a refusal where the test fails
pub else_spares : (t : Bool) (why : Refusal) (out : List ℕ) (o : Outcome (Result ℕ Refusal) (List ℕ)) → Spares out o → Spares out (cond t o (refused why out))
else_spares true why out o h n = h n
else_spares false why out o h n = refl
