-- The search along the nodes: what was found, then those that reply from node i on, is who replies.
use Rattle.std.proofs.Common.{◌≡◌, ℕ, zero, suc, ◌+◌, ◌-◌, ◌/◌, ◌%◌, ◌<◌, List, [], ◌∷◌, ◌++◌, refl, add-one, arith}
use Rattle.survey.specs.declared.sets.Replier.{Replier}
use Rattle.survey.specs.declared.sets.Replier.TheVariants.{None, One, Several}
use Rattle.survey.specs.Sets.{members_from, members}
use Rattle.survey.specs.Chain.{search_of}

none_from : (k i : ℕ) → members_from k i 0 ≡ []
none_from zero i = refl
none_from (suc k) i = none_from k (suc i)

-- what was found, as a list
abbrev kept : Replier → List ℕ
kept None = []
kept (One i) = i ∷ []
kept Several = 0 ∷ 0 ∷ []

-- found so far, before node i of n, with `rest` the repliers from there on, of those in s
abbrev pub Searched : ℕ → ℕ → ℕ → ℕ → Replier → Type 0
Searched s n rest i found = search_of (kept found ++ members_from (n - i) i rest) ≡ search_of (members n s)

module _ (s n rest i : ℕ) (r : Replier) (inv : Searched s n rest i r) where
  module _ (below : i < n) where
    one_less : n - i ≡ suc (n - suc i)
    one_less = omega arith

    pub search_past : (r' : Replier) → (rest % 2 ≡ 1 → ⊥) → r' ≡ r → Searched s n (rest / 2) (i + 1) r'
    search_past r' h f =
        let e : rest % 2 ≡ 0 = omega arith in
        rw (f, add-one) (rw (one_less, e) at inv)

    module _ (replying : rest % 2 ≡ 1) where
      pub search_first : (r' : Replier) → r ≡ None → r' ≡ One i → Searched s n (rest / 2) (i + 1) r'
      search_first r' e f = rw (f, add-one) (rw (e, one_less, replying) at inv)

      -- nobody behind node i replies
      pub search_last : r ≡ None → rest ≡ 1 → One i ≡ search_of (members n s)
      search_last e f = rw (none_from (n - suc i) (suc i)) at (rw (e, one_less, f) at inv)
