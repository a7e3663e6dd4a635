-- A table of nodes with records in range: the chain's call does to it what is said of the list.
use Prim.Native.Nat.{ℕ, suc, ◌+◌, ◌≤◌, ◌<◌}
use Rattle.packet.specs.declared.Framed.{Framed}
use Rattle.packet.specs.Packet.{whole}
use mathlib.Core.Bool.{true}
use mathlib.Core.List.{List, [], ◌∷◌}
use mathlib.Core.Path.{◌≡◌, refl, sym, ap}
use native.Mathlib.Omega.{arith}
use lib.ListN.{length, drop}
use lib.Seq.{take-append_seam}
use borrow.Author.Tests.{le-leb, le-ltb}
use Rattle.std.specs.Prelude.{Result, Err, Ok}
use Rattle.wire.specs.Promise.{Outcome}
use Rattle.buffer.specs.Buffer.{written}
use Rattle.wire.specs.declared.address.Address.{Address}
use Rattle.wire.specs.declared.refusal.Refusal.{Refusal}
use Rattle.status.specs.Status.{T}
use Rattle.node.specs.declared.state.Node.{Node}
use Rattle.message.specs.declared.Messages.{Messages}
use Rattle.message.specs.Message.{message_to}
use Rattle.reply.specs.Reply.{mask_for}
use Rattle.mask.proofs.Counts.{size_range}
use Rattle.reply.proofs.Replies.{reply_length_lem}
use Rattle.survey.specs.declared.decision.Delivery.{Delivery}
use Rattle.survey.specs.One.{messages_as, is_ranged}
use Rattle.survey.specs.Chain.{after, Said, silence, reply, collided, said, all_ranged}
use Rattle.survey.specs.Delivery.{Lent, valid, on_said, delivered_to, frame_alone, on_frame, deliver_of}
use Rattle.survey.proofs.Meaning.{length_after, said_says}
use Rattle.line.specs.Line.{taken_by, parted, spoken_by}
use Rattle.line.specs.Demand3.{said_in, Delivers}
use Rattle.line.proofs.Invariant.{at}
use Rattle.line.proofs.Getting.{parted_same, parted_all, among_all}

all_ranged_lem : (l : List Node) → ((i : ℕ) → i < length l → is_ranged (at l i).settings.place ≡ true) → all_ranged l ≡ true
all_ranged_lem [] f = refl
all_ranged_lem (n ∷ ns) f = rw (f 0 (omega arith)) (all_ranged_lem ns (λ i l. f (suc i) (omega arith)))

-- what a delivery does, by what is said
record Does (o : Outcome (Result Delivery Refusal) Lent) (ns : List Node) (s : Said) : Type 0 where
  nodes : o.left.nodes ≡ ns
  says : said_in o.answer o.left.reply ≡ s

module _ (ns : List Node) (v : ℕ) (out : List ℕ) (room : T + 2 ≤ length out) where
  does : (to : Address) (h : Messages) (s : Said) → said v to h ns ≡ s → Does (on_said s v to h ns out) (after v to h ns) s
  unfolding written
  does to h silence e = record { nodes = refl; says = refl }
  does to h (reply r) e =
      let p = said_says v to h ns r e in
      let m = message_to (at ns p.at).kind h in
      let n : length r ≤ T + 2 = omega (arith, ap length p.bytes, reply_length_lem m (at ns p.at), (size_range (at ns p.at).kind (mask_for m (at ns p.at))).1) in
      rw (le-ltb (length out) (length r) (omega arith)) (record { nodes = refl; says = ap reply (take-append_seam r (drop (length r) out)) })
  does to h collided e = record { nodes = refl; says = refl }

  -- where all nodes get the packet
  does_frame : (f : Result Framed Refusal) (q : List ℕ) → Does (on_frame v f q ns out) (parted (λ i. true) ns (taken_by v f q ns)) (spoken_by (λ i. true) v f q ns)
  unfolding delivered_to
  does_frame (Ok g) q =
      rw (parted_all ns (after v g.address (messages_as g.address g.command q) ns) (length_after v g.address (messages_as g.address g.command q) ns), among_all v g.address (messages_as g.address g.command q) ns)
      (does g.address (messages_as g.address g.command q) (said v g.address (messages_as g.address g.command q) ns) refl)
  does_frame (Err why) q = record { nodes = sym (parted_same (λ i. true) ns); says = refl }

  pub delivers : 1 ≤ length ns → length ns ≤ 31 → ((i : ℕ) → i < length ns → is_ranged (at ns i).settings.place ≡ true) → (q : List ℕ) → Delivers ns v q out
  unfolding deliver_of valid
  delivers least few f q =
      let d = does_frame (frame_alone q) q in
      record { taken = sure; nodes = rw sure d.nodes; says = rw sure d.says }
    where
      sure : valid ns ≡ true
      sure = rw (le-leb 1 (length ns) least, le-leb (length ns) 31 few) (all_ranged_lem ns f)
