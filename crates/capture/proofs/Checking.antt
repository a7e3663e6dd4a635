-- One law for each exit of `check`.
use mathlib.Core.Path.{◌≡◌, refl}
use mathlib.Core.Bool.{Bool, true, false, cond, ◌&&◌}
use mathlib.Core.List.{List}
use Prim.Native.Nat.{ℕ}
use Rattle.std.specs.Prelude.{Ok, Err}
use Rattle.wire.specs.declared.refusal.Refusal.TheVariants.{Uneven, Backward}
use Rattle.capture.specs.Checks.{is_rising, is_even, check_of}

-- 15 in either capture at once
evens_at_once : {A : Type 0} (a b : Bool) (x z : A) → cond a (cond b x z) z ≡ cond (a && b) x z
evens_at_once true b x z = refl
evens_at_once false b x z = refl

module _ (cs cts rs rts : List ℕ) (a b : Bool) (e : a ≡ is_even cs cts) (f : b ≡ is_even rs rts) where
  pub uneven : (a && b) ≡ false → Err Uneven ≡ check_of cs cts rs rts
  unfolding check_of
  uneven h = rw (evens_at_once (is_even cs cts), ← e, ← f, h)

  module _ (c : Bool) (i : c ≡ is_rising cts) (h : (a && b) ≡ true) where
    pub backward_command : c ≡ false → Err Backward ≡ check_of cs cts rs rts
    unfolding check_of
    backward_command k = rw (evens_at_once (is_even cs cts), ← e, ← f, ← i, h, k)

    module _ (k : c ≡ true) (d : Bool) (j : d ≡ is_rising rts) where
      pub backward_reply : d ≡ false → Err Backward ≡ check_of cs cts rs rts
      unfolding check_of
      backward_reply l = rw (evens_at_once (is_even cs cts), ← e, ← f, ← i, ← j, h, k, l)

      pub good : d ≡ true → Ok tt ≡ check_of cs cts rs rts
      unfolding check_of
      good l = rw (evens_at_once (is_even cs cts), ← e, ← f, ← i, ← j, h, k, l)
