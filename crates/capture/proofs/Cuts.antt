-- One law for each exit of `cut`.
use Prim.Native.Nat.{ℕ, ◌-◌, ◌<◌}
use native.Mathlib.Omega.{arith}
use mathlib.Core.Path.{◌≡◌, refl, sym, ap, ◌∙◌}
use mathlib.Core.List.{List, []}
use lib.ListN.{length, take, drop, length-drop, drop_of_length-le}
use lib.Seq.{take_all, take-nil}
use Rattle.capture.specs.Packets.{cut_of}

module _ (s : List ℕ) (from end : ℕ) where
  pub cut_past : length s < from → [] ≡ cut_of s from end
  unfolding cut_of
  cut_past h = sym (ap (take (end - from)) (drop_of_length-le s {i = from} (omega arith)) ∙ take-nil (end - from))

  pub cut_none : end < from → take (from - from) (drop from s) ≡ cut_of s from end
  unfolding cut_of
  cut_none h =
      let e : from - from ≡ end - from = omega arith in
      ap (λ (n : ℕ). take n (drop from s)) e

  pub cut_rest : length s < end → take (length s - from) (drop from s) ≡ cut_of s from end
  unfolding cut_of
  cut_rest h = take_all (length s - from) (drop from s) (omega (arith, length-drop from s)) ∙ sym (take_all (end - from) (drop from s) (omega (arith, length-drop from s)))

  pub cut_all : take (end - from) (drop from s) ≡ cut_of s from end
  unfolding cut_of
  cut_all = refl
