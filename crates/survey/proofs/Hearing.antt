-- "A node hears only commands at its own" divisor: one that hears has the divisor that was sent at, and one with another neither acts nor replies.
use Rattle.std.proofs.Common.{◌≡◌, ℕ, suc, Bool, true, false, ◌&&◌, ◌||◌, eqb, List, [], ◌∷◌, Ok, refl, ap, ap₂, ne_eqb, eqb-true, Err}
use Rattle.packet.specs.Packet.{whole}
use Rattle.wire.specs.declared.address.Address.{Address}
use Rattle.wire.proofs.Choice.{same, both}
use Rattle.node.specs.declared.state.Node.{Node}
use Rattle.message.specs.declared.Messages.{Messages}
use Rattle.message.specs.Message.{is_answered}
use Rattle.survey.specs.declared.decision.Delivery.TheVariants.{Silent}
use Rattle.survey.specs.One.{does_hear, is_meant, is_answering, does_act, does_reply, turned, messages_as}
use Rattle.survey.specs.Chain.{turned_from, after, repliers_from, replier_in, silence, said}
use Rattle.survey.specs.Delivery.{valid, delivered_to, frame_alone, deliver_of}

module _ (at : ℕ) (near : Bool) (n : Node) where
  pub heard_at : does_hear at near n ≡ true → n.settings.divisor ≡ at
  heard_at e = eqb-true n.settings.divisor at (both (near || n.addressed) (eqb n.settings.divisor at) e).1

  module _ (to : Address) where
    pub acted_at : does_act at to near n ≡ true → n.settings.divisor ≡ at
    unfolding does_act
    acted_at e = heard_at (both (does_hear at near n) (is_meant to n.settings.place) e).0

    pub replied_at : does_reply at to near n ≡ true → n.settings.divisor ≡ at
    unfolding does_reply
    replied_at e = heard_at (both (does_hear at near n) (is_answering to n.settings.place) e).0

  module _ (other : n.settings.divisor ≡ at → ⊥) where
    pub deaf : does_hear at near n ≡ false
    deaf = rw (ne_eqb n.settings.divisor at other) (and_false (near || n.addressed))
      where
        and_false : (b : Bool) → (b && false) ≡ false
        and_false true = refl
        and_false false = refl

    module _ (to : Address) where
      pub deaf_acts : does_act at to near n ≡ false
      unfolding does_act
      deaf_acts = ap (λ (b : Bool). b && is_meant to n.settings.place) deaf

      pub deaf_replies : does_reply at to near n ≡ false
      unfolding does_reply
      deaf_replies = ap (λ (b : Bool). b && is_answering to n.settings.place) deaf

      pub deaf_stays : (h : Messages) → turned at to h near n ≡ n
      unfolding turned
      deaf_stays h = rw deaf_acts

-- no node of the chain has this divisor
abbrev pub NobodyAt : ℕ → List Node → Type 0
NobodyAt at [] = Unit {0}
NobodyAt at (n ∷ ns) = (n.settings.divisor ≡ at → ⊥) × NobodyAt at ns

module _ (at : ℕ) (to : Address) (h : Messages) where
  stay_from : (near : Bool) (ns : List Node) → NobodyAt at ns → turned_from at to h near ns ≡ ns
  stay_from near [] u = refl
  stay_from near (n ∷ ns) u = ap₂ ◌∷◌ (deaf_stays at near n u.0 to h) (stay_from n.addressed ns u.1)

  quiet_at : (near : Bool) (ns : List Node) → NobodyAt at ns → (i : ℕ) → repliers_from at to i near ns ≡ []
  quiet_at near [] u i = refl
  quiet_at near (n ∷ ns) u i = rw (deaf_replies at near n u.0 to) (quiet_at n.addressed ns u.1 (suc i))

  silent : (ns : List Node) → NobodyAt at ns → said at to h ns ≡ silence
  unfolding said replier_in
  silent ns u = rw (quiet_at true ns u 0) (same (is_answered h.gate) silence)

-- a packet at a divisor that no node has: nobody replies, and all stays as it stood
pub nobody_hears : (ns : List Node) (at : ℕ) (p out : List ℕ) (to : Address) (k n : ℕ) → valid ns ≡ true → frame_alone p ≡ whole to k n → NobodyAt at ns
    → deliver_of ns at p out ≡ record { answer = Ok Silent; left = record { nodes = ns; reply = out } }
unfolding deliver_of delivered_to after
nobody_hears ns at p out to k n v f u =
    rw (v, f, silent at to (messages_as to k p) ns u) (ap (λ (l : List Node). record { answer = Ok Silent; left = record { nodes = l; reply = out } }) (stay_from at to (messages_as to k p) true ns u))
