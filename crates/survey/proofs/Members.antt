-- The first node of a set, and the set without it.
use Rattle.std.proofs.Common.{◌≡◌, ℕ, zero, suc, ◌-◌, ◌*◌, ◌/◌, ◌%◌, ◌^◌, ◌<◌, ◌≤◌, sym, refl, ap, ◌∙◌, subst, pow-suc, arith}
use lib.Count.{count_trailing_zeros, under}
use Rattle.survey.specs.Sets.{lowest_of}

-- ---- halving, which takes one digit off

pub half_below : (k n : ℕ) → n < 2 ^ suc k → n / 2 < 2 ^ k
half_below k n h =
    let g : n < 2 ^ k * 2 = subst (λ (x : ℕ). n < x) (pow-suc 2 k) h in
    omega (arith, g)

twice_less : (x n : ℕ) → (n - x * 2) / 2 ≡ n / 2 - x
twice_less x n = omega arith

pub half_less : (j n : ℕ) → (n - 2 ^ suc j) / 2 ≡ n / 2 - 2 ^ j
half_less j n = ap (λ (x : ℕ). (n - x) / 2) (pow-suc 2 j) ∙ twice_less (2 ^ j) n

twice_even : (x n : ℕ) → n % 2 ≡ 0 → (n - x * 2) % 2 ≡ 0
twice_even x n e = omega (arith, e)

pub even_less : (j n : ℕ) → n % 2 ≡ 0 → (n - 2 ^ suc j) % 2 ≡ 0
even_less j n e = ap (λ (x : ℕ). (n - x) % 2) (pow-suc 2 j) ∙ twice_even (2 ^ j) n e

-- ---- the first node

first_in_step : (k n d : ℕ) → n % 2 ≡ d → 0 < n → (0 < n / 2 → 2 ^ count_trailing_zeros k (n / 2) ≤ n / 2) → 2 ^ under d (count_trailing_zeros k (n / 2)) ≤ n
first_in_step k n zero e p ih =
    let g : 2 ^ count_trailing_zeros k (n / 2) ≤ n / 2 = ih (omega (arith, e, p)) in
    let d : 2 ^ count_trailing_zeros k (n / 2) * 2 ≤ n = omega (arith, g) in
    subst (λ (x : ℕ). x ≤ n) (sym (pow-suc 2 (count_trailing_zeros k (n / 2)))) d
first_in_step k n (suc d) e p ih = omega (arith, p)

first_in : (k n : ℕ) → 0 < n → n < 2 ^ k → 2 ^ count_trailing_zeros k n ≤ n
unfolding count_trailing_zeros
first_in zero n p h = omega (arith, p, h)
first_in (suc k) n p h = first_in_step k n (n % 2) refl p (λ q. first_in k (n / 2) q (half_below k n h))

-- of a set that isn't empty, its digit is no larger than the set
module _ (s : ℕ) (some : s ≡ 0 → ⊥) (fits : s < 2 ^ 32) where
  first_inside : 2 ^ lowest_of s ≤ s
  first_inside = first_in 32 s (omega (arith, some)) fits

  -- as the code has it
  shifted : 1 * 2 ^ lowest_of s % 2 ^ 32 ≡ 2 ^ lowest_of s
  shifted = let g = first_inside in omega (arith, g, fits)

  pub first_taken : 1 * 2 ^ lowest_of s % 2 ^ 32 ≤ s
  first_taken = let g = first_inside in let e = shifted in omega (arith, g, e)
