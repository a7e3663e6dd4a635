-- The loop of `packet_end`: the end is where the times that are left put it.
use Prim.Native.Nat.{ℕ, suc, ◌+◌, ◌-◌, ◌≤◌, ◌<◌}
use native.Mathlib.Omega.{arith}
use native.Mathlib.Numerals.{add-one}
use mathlib.Core.Path.{◌≡◌, sym, ◌∙◌}
use mathlib.Core.Bool.{Bool, true, false}
use mathlib.Core.List.{List}
use lib.ListN.{length, get_or, drop, drop_of_length-le}
use lib.Seq.{drop-cons}
use Rattle.capture.specs.Packets.{is_gap, run_on, first_count, packet_end}

-- the packet from `at` reaches byte i
unfoldable pub Reaching : List ℕ → ℕ → ℕ → Type 0
Reaching ts at i = packet_end ts at ≡ i + run_on (get_or ts (i - 1) 0) (drop i ts)

module _ (ts : List ℕ) (at : ℕ) where
  pub end_past : length ts ≤ at → at ≡ packet_end ts at
  unfolding packet_end
  end_past h = let e : first_count (drop at ts) ≡ 0 = rw (drop_of_length-le ts h) in omega arith

  pub reaching_start : at < length ts → Reaching ts at (at + 1)
  unfolding Reaching packet_end
  reaching_start h =
      let k : at + 1 - 1 ≡ at = omega arith in
      let e : first_count (drop at ts) ≡ suc (run_on (get_or ts at 0) (drop (at + 1) ts)) = rw (drop-cons ts at 0 h, add-one) in
      rw k (omega arith)

  pub reaching_next : (i : ℕ) (gap : Bool) → Reaching ts at i → i < length ts → gap ≡ is_gap (get_or ts (i - 1) 0) (get_or ts i 0) → gap ≡ false → Reaching ts at (i + 1)
  unfolding Reaching
  reaching_next i gap g h e f =
      let k : i + 1 - 1 ≡ i = omega arith in
      let s : run_on (get_or ts (i - 1) 0) (drop i ts) ≡ suc (run_on (get_or ts i 0) (drop (i + 1) ts)) = rw (drop-cons ts i 0 h, sym e ∙ f, add-one) in
      rw k (omega arith)

  pub reaching_gap : (i : ℕ) (gap : Bool) → Reaching ts at i → i < length ts → gap ≡ is_gap (get_or ts (i - 1) 0) (get_or ts i 0) → gap ≡ true → i ≡ packet_end ts at
  unfolding Reaching
  reaching_gap i gap g h e t =
      let s : run_on (get_or ts (i - 1) 0) (drop i ts) ≡ 0 = rw (drop-cons ts i 0 h, sym e ∙ t) in
      omega arith

  pub reaching_end : (i : ℕ) → Reaching ts at i → length ts ≤ i → i ≤ length ts → length ts ≡ packet_end ts at
  unfolding Reaching
  reaching_end i g h k = let s : run_on (get_or ts (i - 1) 0) (drop i ts) ≡ 0 = rw (drop_of_length-le ts h) in omega arith
