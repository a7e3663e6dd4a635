-- What the steps of a delivery come to together is what document 01 says of the packet.
use Rattle.std.proofs.Common.{◌≡◌, ℕ, ◌<◌, ◌≤◌, Bool, true, false, cond, ◌&&◌, leb, List, length, get_or, Option, None, Result, Err, sym, refl, ap, ◌∙◌, leb-true, Ok}
use Rattle.packet.specs.declared.Framed.{Framed}
use Rattle.packet.specs.Packet.{whole}
use Rattle.std.proofs.lemmas.Option.{slice_get-get_or}
use Rattle.wire.specs.Numbers.{most_nodes}
use Rattle.wire.specs.Promise.{Outcome, Lending, lent}
use Rattle.buffer.specs.Buffer.{written}
use Rattle.wire.specs.declared.address.Address.{Address}
use Rattle.wire.specs.declared.refusal.Refusal.{Refusal}
use Rattle.wire.specs.declared.refusal.Refusal.TheVariants.{Range}
use Rattle.wire.proofs.Choice.{both}
use Rattle.node.specs.declared.state.Node.{Node}
use Rattle.message.specs.declared.Message.TheVariants.{Other}
use Rattle.message.specs.declared.Messages.{Messages}
use Rattle.message.specs.Message.{is_answered}
use Rattle.survey.specs.declared.sets.Replier.{Replier}
use Rattle.survey.specs.declared.sets.Replier.TheVariants as replier
use Rattle.survey.specs.declared.plan.Incoming.{Incoming}
use Rattle.survey.specs.declared.plan.Plan.{Plan}
use Rattle.survey.specs.declared.plan.Survey.{Survey}
use Rattle.survey.specs.declared.decision.Decided.{Decided}
use Rattle.survey.specs.declared.decision.Delivery.{Delivery}
use Rattle.survey.specs.One.{does_act, does_reply, to_both, messages_as}
use Rattle.survey.specs.Chain.{after, search_of, replier_in, Said, silence, said, reply_for, said_by, blank_node, all_ranged}
use Rattle.survey.specs.Survey.{receive_by, receive_of, chain_start, glances_of, replier_to, plan_by, plan_of, speaker_in, speaker_of, speaker_node, survey_all}
use Rattle.survey.specs.Decision.{touched_of, decide_built, decide_one, decide_by, decide_plan, decide_of, act_all}
use Rattle.survey.specs.Delivery.{Lent, valid, on_built, on_said, delivered_to, frame_alone, on_frame, deliver_of, refused_delivery, delivery_number}
use Rattle.survey.proofs.Flags.{flags_from, set_of, read, seen_acting, seen_replying, seen_ranged, repliers_are, actors_turn}
use Rattle.survey.proofs.Visiting.{visit_none}
use Rattle.survey.proofs.Touching.{touched_all}
use Rattle.survey.proofs.Meaning.{none_one, replier_below}

-- what a decision comes to, on the nodes ns
abbrev came : Outcome Decided (List ℕ) → List Node → Outcome (Result Delivery Refusal) Lent
came o ns = record { answer = o.answer.answer; left = record { nodes = act_all o.answer.messages o.answer.acting ns; reply = o.left } }

-- a refusal leaves all as it stood
refused_all : (why : Refusal) (s : Option Node) (ns : List Node) (out : List ℕ) → came (decide_plan (Err why) s out) ns ≡ refused_delivery why ns out
refused_all why s ns out = rw (visit_none (to_both Other) ns)

-- the plan for a packet that was read comes to this, by who replies and who acts
abbrev planned : Messages → List Node → List ℕ → Replier → ℕ → Outcome (Result Delivery Refusal) Lent
planned h ns out r acting = came (decide_by r (speaker_node (speaker_in r) ns) (record { replier = r; acting = acting; messages = h }) out) ns

module _ (at : ℕ) (to : Address) (h : Messages) (ns : List Node) (out : List ℕ) (acting : ℕ) (acted : act_all h (touched_of h acting) ns ≡ after at to h ns) where
  by_built : (r : Replier) (b : Result ℕ Refusal) (left : List ℕ) → came (record { answer = decide_built b (record { replier = r; acting = acting; messages = h }); left = left }) ns ≡ on_built b at to h ns left
  by_built r (Ok n) left = rw acted
  by_built r (Err why) left = rw (visit_none (to_both Other) ns)

  -- by who replies; the one that does is a node of the chain
  by_replier : (r : Replier) → ((i : ℕ) → r ≡ replier.One i → i < length ns) → planned h ns out r acting ≡ on_said (said_by h ns r) at to h ns out
  unfolding decide_one
  by_replier replier.None b = rw acted
  by_replier (replier.One i) b =
      rw (slice_get-get_or ns i blank_node (b i refl)) (by_built (replier.One i) (written (reply_for h (get_or ns i blank_node)) out).answer (written (reply_for h (get_or ns i blank_node)) out).left)
  by_replier replier.Several b = rw acted

-- who replies, if the packet is answered at all
answered : (h : Messages) (ns : List Node) (b : Bool) (r : Replier) → cond b (said_by h ns r) silence ≡ said_by h ns (cond b r replier.None)
answered h ns true r = refl
answered h ns false r = refl

chosen_below : (b : Bool) (r : Replier) (n : ℕ) → ((i : ℕ) → r ≡ replier.One i → i < n) → (i : ℕ) → cond b r replier.None ≡ replier.One i → i < n
chosen_below true r n f i e = f i e
chosen_below false r n f i e = absurd (none_one i e)

replier_is : (at : ℕ) (to : Address) (h : Messages) (ns : List Node) → replier_to h (set_of (flags_from (does_reply at to) true ns)) (length ns) ≡ cond (is_answered h.gate) (replier_in at to ns) replier.None
unfolding replier_to replier_in
replier_is at to h ns = ap (λ (l : List ℕ). cond (is_answered h.gate) (search_of l) replier.None) (repliers_are at to 0 true ns)

said_is : (at : ℕ) (to : Address) (h : Messages) (ns : List Node) (out : List ℕ) → on_said (said_by h ns (cond (is_answered h.gate) (replier_in at to ns) replier.None)) at to h ns out ≡ delivered_to at to h ns out
unfolding said delivered_to
said_is at to h ns out = ap (λ (x : Said). on_said x at to h ns out) (sym (answered h ns (is_answered h.gate) (replier_in at to ns)))

actors_after : (at : ℕ) (to : Address) (h : Messages) (ns : List Node) → act_all h (touched_of h (set_of (flags_from (does_act at to) true ns))) ns ≡ after at to h ns
unfolding after
actors_after at to h ns = touched_all h (set_of (flags_from (does_act at to) true ns)) ns ∙ actors_turn at to h true ns

-- a packet that was read, to a valid table
read_plan : (at : ℕ) (to : Address) (h : Messages) (ns : List Node) (out : List ℕ) → length ns ≤ most_nodes
    → planned h ns out (replier_to h (glances_of (read at to h) chain_start ns).replying (length ns)) (glances_of (read at to h) chain_start ns).acting ≡ delivered_to at to h ns out
read_plan at to h ns out b =
    ap (λ (a : ℕ). planned h ns out (replier_to h (glances_of (read at to h) chain_start ns).replying (length ns)) a) (seen_acting at to h ns b)
    ∙ ap (λ (r : Replier). planned h ns out r (set_of (flags_from (does_act at to) true ns))) (ap (λ (x : ℕ). replier_to h x (length ns)) (seen_replying at to h ns b) ∙ replier_is at to h ns)
    ∙ by_replier at to h ns out (set_of (flags_from (does_act at to) true ns)) (actors_after at to h ns) (cond (is_answered h.gate) (replier_in at to ns) replier.None)
    (chosen_below (is_answered h.gate) (replier_in at to ns) (length ns) (replier_below at to ns))
    ∙ said_is at to h ns out

-- by the frame
framed_plan : (at : ℕ) (f : Result Framed Refusal) (p : List ℕ) (ns : List Node) (out : List ℕ) → length ns ≤ most_nodes
    → came (decide_plan (plan_by (receive_by at f p) (glances_of (receive_by at f p) chain_start ns) (length ns)) (speaker_node (speaker_of (plan_by (receive_by at f p) (glances_of (receive_by at f p) chain_start ns) (length ns))) ns) out) ns
    ≡ on_frame at f p ns out
framed_plan at (Ok g) p ns out b = read_plan at g.address (messages_as g.address g.command p) ns out b
framed_plan at (Err why) p ns out b = refused_all why None ns out

-- by the table
tabled_plan : (t : Bool) (q : Result Plan Refusal) (ns : List Node) (out : List ℕ) (o : Outcome (Result Delivery Refusal) Lent) → (t ≡ true → came (decide_plan q (speaker_node (speaker_of q) ns) out) ns ≡ o)
    → came (decide_plan (cond t q (Err Range)) (speaker_node (speaker_of (cond t q (Err Range))) ns) out) ns ≡ cond t o (refused_delivery Range ns out)
tabled_plan true q ns out o f = f refl
tabled_plan false q ns out o f = refused_all Range None ns out

pub delivers : (ns : List Node) (at : ℕ) (p out : List ℕ) → came (decide_of (survey_all (receive_of at p) ns) out) ns ≡ deliver_of ns at p out
unfolding receive_of plan_of survey_all deliver_of valid
delivers ns at p out =
    let c = receive_by at (frame_alone p) p in
    rw (seen_ranged c chain_start ns)
    (tabled_plan (leb 1 (length ns) && leb (length ns) most_nodes && all_ranged ns) (plan_by c (glances_of c chain_start ns) (length ns)) ns out (on_frame at (frame_alone p) p ns out)
    (λ v. framed_plan at (frame_alone p) p ns out (leb-true (length ns) most_nodes (both (leb 1 (length ns)) _ (both _ (all_ranged ns) v).0).1)))

pub joined : (ns : List Node) (at : ℕ) (p out : List ℕ) (c : Result Incoming Refusal) (s : Survey) (d : Decided) (left : List ℕ) (zs : List Node)
    → c ≡ receive_of at p → s ≡ survey_all c ns → record { answer = d; left = left } ≡ decide_of s out → zs ≡ act_all d.messages d.acting ns
    → Lending delivery_number d.answer (record { nodes = zs; reply = left }) (deliver_of ns at p out)
joined ns at p out c s d left zs e f g k =
    lent (rw k (ap (λ (o : Outcome Decided (List ℕ)). came o ns) (g ∙ ap (λ (x : Survey). decide_of x out) (f ∙ ap (λ (x : Result Incoming Refusal). survey_all x ns) e)) ∙ delivers ns at p out))
