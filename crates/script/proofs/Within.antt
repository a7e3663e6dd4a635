-- What was written to a buffer stands within it.
use Prim.Native.Nat.{ℕ, ◌≤◌}
use Rattle.wire.specs.declared.refusal.Refusal.{Refusal}
use Rattle.std.specs.Prelude.{Result, Ok, ℕ}
use Rattle.wire.specs.Numbers.{number_by}
use mathlib.Core.Bool.{Bool, true, false, cond}
use mathlib.Core.List.{List}
use mathlib.Core.Path.{◌≡◌, sym, ◌∙◌}
use native.Mathlib.Omega.{arith}
use lib.Dec.{ltb}
use lib.ListN.{length, take, drop, length-append}
use lib.Seq.{length-take-le}
use Rattle.wire.specs.Promise.{Lending}
use Rattle.buffer.specs.Buffer.{at_start, refused, written}
use Rattle.wire.specs.declared.refusal.Refusal.TheVariants.{Room}
use Rattle.wire.proofs.Impossible.{impossible}

chosen : (t : Bool) (p out left : List ℕ) (n : ℕ) → Ok n ≡ (cond t (refused Room out) (at_start p out)).answer → left ≡ (cond t (refused Room out) (at_start p out)).left → n ≤ length left
chosen true p out left n e f = impossible cc
chosen false p out left n e f =
    let k : n ≡ length p = cc in
    rw (k, f) (omega (arith, length-append p (drop (length p) out)))

module _ (p out left : List ℕ) (r : Result ℕ Refusal) (n : ℕ) (w : Lending number_by r left (written p out)) (e : r ≡ Ok n) where
  pub written_within : n ≤ length left
  unfolding written
  written_within = chosen (ltb (length out) (length p)) p out left n (sym e ∙ w.answer) w.leaves

  pub written_part : n ≡ length (take n left)
  written_part = sym (length-take-le n left written_within)
