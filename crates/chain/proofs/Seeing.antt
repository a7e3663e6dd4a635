-- The plan with the node that replies, as the code reads it out of the table; and a look at each node by its index: what is left to see after i turns.
use Rattle.std.proofs.Common.{◌≡◌, ℕ, zero, suc, ◌+◌, ◌<◌, ◌≤◌, List, [], ◌∷◌, length, drop, get_or, Option, Some, None, Result, option_copied, slice_get, Bor, refl, sym, ap, ◌∙◌, arith, add-one, not-suc-le-zero, le_of_suc-le-suc}
use Rattle.std.proofs.lemmas.Option.{slice_get-get_or, slice_get_past}
use Rattle.std.specs.Slice.{IsItemAt}
use lib.ListN.{drop_of_length-le}
use Rattle.wire.specs.declared.refusal.Refusal.{Refusal}
use Rattle.node.specs.declared.state.Node.{Node}
use Rattle.survey.specs.declared.plan.Incoming.{Incoming}
use Rattle.survey.specs.declared.plan.Plan.{Plan}
use Rattle.survey.specs.declared.plan.Seen.{Seen}
use Rattle.survey.specs.declared.plan.Survey.{Survey}
use Rattle.survey.specs.Survey.{chain_start, glance_of, glances_of, plan_of, speaker_of, speaker_node, survey_all, survey_by}

copied : (ns : List Node) (i : ℕ) (r : Option (Bor Node)) → IsItemAt ns i r → option_copied r ≡ slice_get ns i
copied ns i None h = sym (slice_get_past ns i h.3)
copied ns i (Some x) h = ap Some (h.4 (omega arith) x.now) ∙ sym (slice_get-get_or ns i x.now h.3.0)

pub survey_some : (c : Result Incoming Refusal) (ns : List Node) (s : Seen) (k i : ℕ) (p : Result Plan Refusal) (o : Option ℕ) (r : Option (Bor Node)) (q : Option Node)
    → glances_of c s (drop k ns) ≡ glances_of c chain_start ns → length ns ≤ k → p ≡ plan_of c s (length ns) → o ≡ speaker_of p → o ≡ Some i → IsItemAt ns i r → q ≡ option_copied r
    → record { plan = p; speaker = q } ≡ survey_all c ns
unfolding survey_all
survey_some c ns s k i p o r q inv past planned spoken some item read =
    let z : s ≡ glances_of c chain_start ns = rw (drop_of_length-le ns {i = k} past) at inv in
    let f : q ≡ speaker_node (speaker_of p) ns = rw (← spoken, some) (read ∙ copied ns i r item) in
    rw f (ap (λ (p : Result Plan Refusal). survey_by p ns) (planned ∙ ap (λ (t : Seen). plan_of c t (length ns)) z))

module _ (c : Result Incoming Refusal) where
  -- the first i nodes are seen
  abbrev pub rest : Seen → ℕ → List Node → Seen
  rest s zero ns = glances_of c s ns
  rest s (suc i) [] = s
  rest s (suc i) (n ∷ ns) = rest s i ns

  pub rest_turn : (s : Seen) (i : ℕ) (ns : List Node) (d : Node) → i < length ns → rest (glance_of c s (get_or ns i d)) (suc i) ns ≡ rest s i ns
  rest_turn s i [] d p = absurd (not-suc-le-zero p)
  rest_turn s zero (n ∷ ns) d p = refl
  rest_turn s (suc i) (n ∷ ns) d p = rest_turn s i ns d (le_of_suc-le-suc p)

  pub rest_next : (s r : Seen) (i : ℕ) (ns : List Node) (d : Node) (whole : Seen) → r ≡ glance_of c s (get_or ns i d) → i < length ns → rest s i ns ≡ whole → rest r (i + 1) ns ≡ whole
  rest_next s r i ns d whole e p w = rw (add-one, e) (rest_turn s i ns d p ∙ w)

  pub rest_end : (s : Seen) (i : ℕ) (ns : List Node) → length ns ≤ i → rest s i ns ≡ s
  rest_end s zero [] p = refl
  rest_end s zero (n ∷ ns) p = absurd (not-suc-le-zero p)
  rest_end s (suc i) [] p = refl
  rest_end s (suc i) (n ∷ ns) p = rest_end s i ns (le_of_suc-le-suc p)

  -- the plan, and the index of the one that replies
  module _ (ns : List Node) (s : Seen) (p : Result Plan Refusal) (o : Option ℕ) (seen : s ≡ glances_of c chain_start ns) (planned : p ≡ plan_of c s (length ns)) (spoken : o ≡ speaker_of p) where
    by_plan : record { plan = p; speaker = speaker_node o ns } ≡ survey_all c ns
    unfolding survey_all
    by_plan = rw spoken (ap (λ (q : Result Plan Refusal). survey_by q ns) (planned ∙ ap (λ (t : Seen). plan_of c t (length ns)) seen))

    -- as the code reads it: within the table, whatever stands for what is past it
    pub survey_read : (k : ℕ) (d : Node) (r : Survey) → o ≡ Some k → k < length ns → r ≡ record { plan = p; speaker = Some (get_or ns k d) } → r ≡ survey_all c ns
    survey_read k d r y h e =
        let there : speaker_node o ns ≡ Some (get_or ns k d) = rw y (slice_get-get_or ns k d h) in
        e ∙ ap (λ (q : Option Node). record { plan = p; speaker = q }) (sym there) ∙ by_plan

    -- nobody, or one past the table
    pub survey_past : (r : Survey) → speaker_node o ns ≡ None → r ≡ record { plan = p; speaker = None } → r ≡ survey_all c ns
    survey_past r y e = e ∙ ap (λ (q : Option Node). record { plan = p; speaker = q }) (sym y) ∙ by_plan
