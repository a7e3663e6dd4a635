-- The record of a node in memory, as a walk by hand needs it: its size is read off its type, and how it is made up stands here alone.
use mathlib.Core.List.{List, [], ◌∷◌}
use mathlib.Core.Path.{◌≡◌}
use Prim.Native.Nat.{ℕ, ◌*◌, ◌<◌, ◌≤◌, ◌^◌}
use native.Mathlib.Omega.{arith}
use native.Mathlib.Nat.{mul-le-mul_right}
use seplogic.Ra.Ura.{Ura}
use mir.Syntax.{Ty}
use mir.Val.{Val}
use types.Logic.{Logic}
use denote.RattleType.{RattleType}
use denote.Laws.{Is, Tells, Makes, Lawful, Copy}
use denote.Memory.{pointee, mem}
use denote.Struct.Laws as LL
use Rattle.node.specs.declared.state.Node.{Node}
use Rattle.node.specs.contracts.state.Node as T
use Rattle.node.proofs.state.Node.TheLaws as T'

abbrev pub the_row : RattleType
the_row = T.the_row

-- its type, as a reference to it has it
abbrev pub pointed : Ty
pointed = pointee (T.the_row).written

-- its bytes
abbrev pub size : ℕ
size = (mem T.the_row).size

-- its machine value
abbrev pub lowered : Node → Val
lowered n = LL.val T.the_type T'.the_laws n

abbrev pub vals : Node → List Val
vals n = lowered n ∷ []

pub tells : Tells the_row (Is the_row) vals
tells = LL.tells T.the_type T'.the_laws

module _ {M : Type 1} {𝓤 : Ura M} (𝓛 : Logic 𝓤) where
  pub makes : Makes 𝓛 the_row (Is the_row)
  makes = LL.makes T.the_type T'.the_plain 𝓛

  pub lawful : Lawful 𝓛 the_row
  lawful = LL.lawful T.the_type T'.the_laws 𝓛

  pub copy : Copy 𝓛 the_row
  copy = LL.copy T.the_type T'.the_copy 𝓛

-- ---- a table of k nodes that has room in memory: where node i lies fits a word
pub fits_place : (i k : ℕ) → i < k → k * size < 2 ^ 63 → i * size < 2 ^ 64
fits_place i k l r =
    let h : i ≤ k = omega arith in
    let m : i * size ≤ k * size = mul-le-mul_right size h in
    omega (arith, m, r)

-- and a table of a few has room
pub few_fit : (k n : ℕ) → k ≡ n → n < 34 → (k < 2 ^ 64) × (k * size < 2 ^ 63)
few_fit k n e l = (omega (arith, e, l), omega (arith, e, l))
