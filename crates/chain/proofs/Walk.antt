-- What a walk by hand through a function's machine steps says of its locals, and what it is told by a callee. The prover makes the walks of this crate itself today; these laws stand.
use Prim.Native.Nat.{ℕ}
use seplogic.Ra.Ura.{Ura}
use base.Fraction.{full_share}
use mir.Syntax.{Ty, Mutability, named, erased, w8, w64, ty_int, ty_ref}
use mir.Val.{Val}
use base.Logic.{ent, ex, sep, ex_e, snd∗}
use base.Fml.{Fml, fat, froom, fdies}
use types.Logic.{Logic, sem}
use types.Kit.{Item, ‵}
use contract.Monad.{fact}
use denote.Slice.{slice_ty}

-- ---- the types of the locals, as the MIR has them
abbrev pub word : Ty
word = ty_int w64

abbrev pub byte : Ty
byte = ty_int w8

-- a slice of t by a reference whose lifetime is the parameter's that stands at j, and by one of the body
abbrev pub slice_in : ℕ → Mutability → Ty → Ty
slice_in j m t = slice_ty (ty_ref (named j) m t)

abbrev pub slice_here : Mutability → Ty → Ty
slice_here m t = slice_ty (ty_ref erased m t)

-- ---- what a local holds: nothing, or v; and that it ends with the body
module _ {M : Type 1} {𝓤 : Ura M} where
  abbrev pub room : Ty → ℕ → Item 𝓤
  room t l = ‵ (froom t l 0)

  abbrev pub has : Ty → ℕ → Val → Item 𝓤
  has t l v = ‵ (fat full_share t l 0 v)

  abbrev pub dies : Ty → ℕ → Item 𝓤
  dies t l = ‵ (fdies t l)

-- ---- a callee whose contract is one fact, whatever its parameters are at exit
pub tells : {M : Type 1} {𝓤 : Ura M} (𝓛 : Logic 𝓤) {X : Type 0} (F : X → Fml) (P : Type 0)
    → ent 𝓤 (ex 𝓤 (λ (x : X). sep 𝓤 (sem 𝓛 (F x)) (fact 𝓤 P))) (fact 𝓤 P)
tells {𝓤 = 𝓤} 𝓛 F P = ex_e 𝓤 (λ x. sep 𝓤 (sem 𝓛 (F x)) (fact 𝓤 P)) (λ x. snd∗ 𝓤 (sem 𝓛 (F x)) (fact 𝓤 P))
