-- A node that acts takes what the packet says to its kind, as the code branches on it; and what a turn leaves to do.
use Rattle.std.proofs.Common.{◌≡◌, ℕ, ◌^◌, ◌<◌, ◌≤◌, Bool, true, false, List, length, get_or, set, Option, Some, None, refl, sym, ◌∙◌, subst}
use Rattle.wire.specs.Kind.{is_gate}
use Rattle.wire.specs.declared.kind.Kind.{Kind}
use Rattle.wire.specs.declared.kind.Kind.TheVariants as kind
use Rattle.wire.proofs.Impossible.{impossible}
use Rattle.message.specs.declared.Messages.{Messages}
use Rattle.message.specs.Message.{message_to}
use Rattle.node.specs.declared.state.Node.{Node}
use Rattle.node.specs.Node.{take_as, take_gate, take_drive}
use Rattle.survey.specs.One.{take_for}
use Rattle.survey.specs.Sets.{first_of, without_first}
use Rattle.survey.specs.Decision.{act_all}
use Rattle.survey.proofs.Visiting.{visit_some, visit_past, visit_empty, fewer, numbered, span_of, below_span, visit_next, visit_end, fewer_below}

a_gate : (k : Kind) (h : Messages) (n : Node) → is_gate k ≡ true → take_as kind.Gate h.gate n ≡ take_as k (message_to k h) n
a_gate kind.Gate h n y = refl
a_gate kind.Drive h n y = impossible cc

a_drive : (k : Kind) (h : Messages) (n : Node) → is_gate k ≡ false → take_as kind.Drive h.drive n ≡ take_as k (message_to k h) n
a_drive kind.Gate h n y = impossible cc
a_drive kind.Drive h n y = refl

module _ (h : Messages) (n r : Node) (t : Bool) (e : t ≡ is_gate n.kind) where
  pub gate_takes : t ≡ true → r ≡ take_gate h.gate n → r ≡ take_for h n
  gate_takes y f = f ∙ a_gate n.kind h n (sym e ∙ y)

  pub drive_takes : t ≡ false → r ≡ take_drive h.drive n → r ≡ take_for h n
  drive_takes y f = f ∙ a_drive n.kind h n (sym e ∙ y)

-- what a set says of the table, as the code finds it: its first, or that it has none
module _ (h : Messages) (ws whole : List Node) (s : ℕ) (o : Option ℕ) (e : o ≡ first_of s) (inv : act_all h s ws ≡ whole) where
  pub none_left : o ≡ None → ws ≡ whole
  none_left f = sym (visit_empty h s ws (sym e ∙ f)) ∙ inv

  module _ (i : ℕ) (f : o ≡ Some i) where
    pub none_there : length ws ≤ i → ws ≡ whole
    none_there b = sym (visit_past h s i ws (sym e ∙ f) b) ∙ inv

    pub one_less : (t : ℕ) → t ≡ without_first s → t < s
    one_less t g = rw g (fewer s i (sym e ∙ f))

    pub one_done : (t : ℕ) (ts : List Node) (r d : Node) → s < 2 ^ 32 → i < length ws → t ≡ without_first s → ts ≡ set ws i r → r ≡ take_for h (get_or ws i d) → act_all h t ts ≡ whole
    one_done t ts r d l b g k q = rw (g, k, q) (visit_some h s i ws d (sym e ∙ f) l b ∙ inv)

-- ---- the same by numbers, as a walk that counts has it
-- i is the first of the set s, which spans m nodes of the table, and t is the set without it
module _ (h : Messages) (s t i m : ℕ) (ws : List Node) (first : i ≡ numbered (first_of s)) (spans : m ≡ span_of (length ws)) where
  both : i < m → (numbered (first_of s) < 32) × (numbered (first_of s) < length ws)
  both small = below_span (numbered (first_of s)) (length ws) (subst (λ (z : ℕ). numbered (first_of s) < z) spans (subst (λ (z : ℕ). z < m) first small))

  pub smaller : i < m → t ≡ without_first s → t < s
  smaller small left = rw left (fewer_below s (both small).0)

  pub kept : (d r : Node) (whole : List Node) → i < m → t ≡ without_first s → r ≡ take_for h (get_or ws i d) → act_all h s ws ≡ whole → act_all h t (set ws i r) ≡ whole
  kept d r whole small left is w = rw (left, is, first) (visit_next h s ws d (both small).0 (both small).1 ∙ w)

-- none of the set is left
pub ended : (h : Messages) (s i m : ℕ) (ws whole : List Node) → i ≡ numbered (first_of s) → m ≡ span_of (length ws) → m ≤ i → s < 2 ^ 32 → act_all h s ws ≡ whole → ws ≡ whole
ended h s i m ws whole first spans past fits w = sym (visit_end h s ws (subst (λ (z : ℕ). z ≤ numbered (first_of s)) spans (subst (λ (z : ℕ). m ≤ z) first past)) fits) ∙ w
