-- The nodes of a set are gone through one by one, the first first: what is left to do after each.
use Rattle.std.proofs.Common.{◌≡◌, ℕ, zero, suc, ◌-◌, ◌/◌, ◌%◌, ◌^◌, ◌<◌, ◌≤◌, Bool, true, false, cond, eqb, ltb, List, [], ◌∷◌, length, get_or, set, Option, Some, None, w32, sym, refl, ap, ◌∙◌, ap₂, le_of_suc-le-suc, not-suc-le-zero, arith, eqb-true, ltb-false, ltb-true, pow_pos}
use lib.Count.{count_trailing_zeros, under}
use Rattle.std.proofs.lemmas.Nat.Bits.{bit_at-trailing_zeros}
use Rattle.wire.proofs.Impossible.{impossible}
use Rattle.message.specs.declared.Messages.{Messages}
use Rattle.node.specs.declared.state.Node.{Node}
use Rattle.survey.specs.One.{take_for}
use Rattle.survey.specs.Sets.{lowest_of, first_of, without_first}
use Rattle.survey.specs.Decision.{act_all}
use Rattle.survey.proofs.Members.{half_less, even_less}

-- what `first` tells of a set
chosen : (b : Bool) (x i : ℕ) → cond b None (Some x) ≡ Some i → (i ≡ x) × (b ≡ false)
chosen true x i e = impossible cc
chosen false x i e = (cc, refl)

pub first_is : (s i : ℕ) → first_of s ≡ Some i → (i ≡ lowest_of s) × (0 < s)
first_is s i e =
    let c = chosen (eqb s 0) (lowest_of s) i e in
    (c.0, some s c.1)
  where
    some : (s : ℕ) → eqb s 0 ≡ false → 0 < s
    some zero e = impossible cc
    some (suc s) e = omega arith

empty : (b : Bool) (x : ℕ) → cond b None (Some x) ≡ None → b ≡ true
empty true x e = refl
empty false x e = impossible cc

module _ (h : Messages) where
  visit_cons : (s a c : ℕ) (w : Node) (ws : List Node) → s % 2 ≡ a → s / 2 ≡ c → act_all h s (w ∷ ws) ≡ (cond (eqb a 1) (take_for h w) w ∷ act_all h c ws)
  visit_cons s a c w ws e f = ap₂ (λ (x y : ℕ). cond (eqb x 1) (take_for h w) w ∷ act_all h y ws) e f

  -- ---- the first of a set acts, and leaves it: t is the first of the digits above the lowest, which is e
  next_step : (k s t e : ℕ) (w : Node) (ws : List Node) (d : Node) → s % 2 ≡ e → (t < k → t < length ws → act_all h (s / 2 - 2 ^ t) (set ws t (take_for h (get_or ws t d))) ≡ act_all h (s / 2) ws)
      → under e t < suc k → under e t < suc (length ws) → act_all h (s - 2 ^ under e t) (set (w ∷ ws) (under e t) (take_for h (get_or (w ∷ ws) (under e t) d))) ≡ act_all h s (w ∷ ws)
  next_step k s t zero w ws d e ih p q =
      visit_cons (s - 2 ^ suc t) 0 (s / 2 - 2 ^ t) w (set ws t (take_for h (get_or ws t d))) (even_less t s e) (half_less t s)
      ∙ ap (λ (l : List Node). w ∷ l) (ih (le_of_suc-le-suc p) (le_of_suc-le-suc q)) ∙ sym (visit_cons s 0 (s / 2) w ws e refl)
  next_step k s t (suc a) w ws d e ih p q =
      let odd : s % 2 ≡ 1 = omega (arith, e) in
      let even : (s - 1) % 2 ≡ 0 = omega (arith, e) in
      let half : (s - 1) / 2 ≡ s / 2 = omega (arith, e) in
      visit_cons (s - 1) 0 (s / 2) (take_for h w) ws even half ∙ sym (visit_cons s 1 (s / 2) w ws odd refl)

  next_in : (k s : ℕ) (ws : List Node) (d : Node) → count_trailing_zeros k s < k → count_trailing_zeros k s < length ws
      → act_all h (s - 2 ^ count_trailing_zeros k s) (set ws (count_trailing_zeros k s) (take_for h (get_or ws (count_trailing_zeros k s) d))) ≡ act_all h s ws
  unfolding count_trailing_zeros
  next_in zero s ws d p q = absurd (not-suc-le-zero p)
  next_in (suc k) s [] d p q = absurd (not-suc-le-zero q)
  next_in (suc k) s (w ∷ ws) d p q = next_step k s (count_trailing_zeros k (s / 2)) (s % 2) w ws d refl (next_in k (s / 2) ws d) p q

  -- ---- none of a set is left that the table has
  end_step : (s t e : ℕ) (w : Node) (ws : List Node) → s % 2 ≡ e → (length ws ≤ t → act_all h (s / 2) ws ≡ ws) → suc (length ws) ≤ under e t → act_all h s (w ∷ ws) ≡ (w ∷ ws)
  end_step s t zero w ws e ih p = visit_cons s 0 (s / 2) w ws e refl ∙ ap (λ (l : List Node). w ∷ l) (ih (le_of_suc-le-suc p))
  end_step s t (suc a) w ws e ih p = absurd (not-suc-le-zero p)

  past_in : (k s : ℕ) (ws : List Node) → length ws ≤ count_trailing_zeros k s → act_all h s ws ≡ ws
  unfolding count_trailing_zeros
  past_in k s [] p = refl
  past_in zero s (w ∷ ws) p = absurd (not-suc-le-zero p)
  past_in (suc k) s (w ∷ ws) p = end_step s (count_trailing_zeros k (s / 2)) (s % 2) w ws refl (past_in k (s / 2) ws) p

  pub visit_none : (ws : List Node) → act_all h 0 ws ≡ ws
  visit_none [] = refl
  visit_none (w ∷ ws) = ap (λ (l : List Node). w ∷ l) (visit_none ws)

  -- as the code finds them
  pub visit_some : (s i : ℕ) (ws : List Node) (d : Node) → first_of s ≡ Some i → s < 2 ^ 32 → i < length ws → act_all h (without_first s) (set ws i (take_for h (get_or ws i d))) ≡ act_all h s ws
  visit_some s i ws d e l b =
      let f = first_is s i e in
      rw f.0 (next_in 32 s ws d (bit_at-trailing_zeros w32 s f.1 l).0 (rw f.0 at b))

  pub visit_past : (s i : ℕ) (ws : List Node) → first_of s ≡ Some i → length ws ≤ i → act_all h s ws ≡ ws
  visit_past s i ws e b = past_in 32 s ws (rw (first_is s i e).0 at b)

  pub visit_empty : (s : ℕ) (ws : List Node) → first_of s ≡ None → act_all h s ws ≡ ws
  visit_empty s ws e = ap (λ (x : ℕ). act_all h x ws) (eqb-true s 0 (empty (eqb s 0) (lowest_of s) e)) ∙ visit_none ws

-- ---- a set that has a first gets smaller
pub fewer : (s i : ℕ) → first_of s ≡ Some i → without_first s < s
fewer s i e = let f = first_is s i e in let p : 0 < 2 ^ lowest_of s = pow_pos (lowest_of s) in omega (arith, f.1, p)

-- ---- the same by numbers, as a walk that counts has it: 32, which no set reaches, where there is no first
abbrev pub numbered : Option ℕ → ℕ
numbered None = 32
numbered (Some i) = i

-- a set spans no further than its digits, and than the table
abbrev pub span_of : ℕ → ℕ
span_of n = cond (ltb 32 n) 32 n

span_both : (n : ℕ) (t : Bool) → ltb 32 n ≡ t → (cond t 32 n ≤ 32) × (cond t 32 n ≤ n)
span_both n true e = (omega arith, omega (arith, ltb-true 32 n e))
span_both n false e = (omega (arith, ltb-false 32 n e), omega arith)

pub below_span : (i n : ℕ) → i < span_of n → (i < 32) × (i < n)
below_span i n l =
    let r = span_both n (ltb 32 n) refl in
    (omega (arith, l, r.0), omega (arith, l, r.1))

-- what lies past the span, and below 32, lies past the table
past_span : (i n : ℕ) (t : Bool) → ltb 32 n ≡ t → cond t 32 n ≤ i → i < 32 → n ≤ i
past_span i n true e p l = omega (arith, p, l)
past_span i n false e p l = p

module _ (h : Messages) (s : ℕ) (ws : List Node) where
  pub visit_next : (d : Node) → numbered (first_of s) < 32 → numbered (first_of s) < length ws
      → act_all h (without_first s) (set ws (numbered (first_of s)) (take_for h (get_or ws (numbered (first_of s)) d))) ≡ act_all h s ws
  visit_next d = go (first_of s) refl
    where
      go : (o : Option ℕ) → first_of s ≡ o → numbered o < 32 → numbered o < length ws → act_all h (without_first s) (set ws (numbered o) (take_for h (get_or ws (numbered o) d))) ≡ act_all h s ws
      go None e p q = absurd (omega (arith, p))
      go (Some i) e p q =
          let f = first_is s i e in
          rw f.0 (next_in h 32 s ws d (rw f.0 at p) (rw f.0 at q))

  pub visit_end : span_of (length ws) ≤ numbered (first_of s) → s < 2 ^ 32 → act_all h s ws ≡ ws
  visit_end = go (first_of s) refl
    where
      go : (o : Option ℕ) → first_of s ≡ o → span_of (length ws) ≤ numbered o → s < 2 ^ 32 → act_all h s ws ≡ ws
      go None e p l = visit_empty h s ws e
      go (Some i) e p l =
          let f = first_is s i e in
          let b : i < 32 = rw f.0 (bit_at-trailing_zeros w32 s f.1 l).0 in
          visit_past h s i ws e (past_span i (length ws) (ltb 32 (length ws)) refl p b)

pub fewer_below : (s : ℕ) → numbered (first_of s) < 32 → without_first s < s
fewer_below s = go (first_of s) refl
  where
    go : (o : Option ℕ) → first_of s ≡ o → numbered o < 32 → without_first s < s
    go None e p = absurd (omega (arith, p))
    go (Some i) e p = fewer s i e
