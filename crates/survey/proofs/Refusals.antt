-- Any number but 0 and 13 leaves table and buffer as they stood.
use Rattle.std.proofs.Common.{◌≡◌, ℕ, Bool, true, false, cond, List, Result, refl, Ok, Err}
use Rattle.packet.specs.declared.Framed.{Framed}
use Rattle.packet.specs.Packet.{whole}
use Rattle.wire.specs.Promise.{Outcome}
use Rattle.wire.specs.Numbers.{done, collision, number_by}
use Rattle.buffer.specs.Buffer.{written}
use Rattle.wire.specs.declared.address.Address.{Address}
use Rattle.wire.specs.declared.refusal.Refusal.{Refusal}
use Rattle.wire.specs.declared.refusal.Refusal.TheVariants.{Range}
use Rattle.buffer.proofs.Refusals as wire
use Rattle.node.specs.declared.state.Node.{Node}
use Rattle.message.specs.declared.Messages.{Messages}
use Rattle.survey.specs.declared.decision.Delivery.{Delivery}
use Rattle.survey.specs.One.{messages_as}
use Rattle.survey.specs.Chain.{Said, silence, reply, collided, said}
use Rattle.survey.specs.Delivery.{Lent, valid, refused_delivery, on_built, on_said, delivered_to, frame_alone, on_frame, deliver_of, delivery_number}

-- o leaves the nodes ns and the buffer `out` as they stood, unless its number is 0 or 13
abbrev pub Spares : List Node → List ℕ → Outcome (Result Delivery Refusal) Lent → Type 0
Spares ns out o =
    (delivery_number o.answer ≡ done → ⊥) → (delivery_number o.answer ≡ collision → ⊥) → (o.left.nodes ≡ ns) × (o.left.reply ≡ out)

built_spares : (at : ℕ) (to : Address) (h : Messages) (ns : List Node) (out left : List ℕ) (b : Result ℕ Refusal) → ((number_by b ≡ done → ⊥) → left ≡ out)
    → Spares ns out (on_built b at to h ns left)
built_spares at to h ns out left (Ok n) f d k = absurd (d refl)
built_spares at to h ns out left (Err why) f d k = (refl, f d)

said_spares : (at : ℕ) (to : Address) (h : Messages) (ns : List Node) (out : List ℕ) (s : Said) → Spares ns out (on_said s at to h ns out)
said_spares at to h ns out silence d k = absurd (d refl)
said_spares at to h ns out (reply r) d k = built_spares at to h ns out (written r out).left (written r out).answer (wire.written_spares r out) d k
said_spares at to h ns out collided d k = absurd (k refl)

frame_spares : (ns : List Node) (at : ℕ) (p out : List ℕ) (f : Result Framed Refusal) → Spares ns out (on_frame at f p ns out)
unfolding delivered_to
frame_spares ns at p out (Ok g) = said_spares at g.address (messages_as g.address g.command p) ns out (said at g.address (messages_as g.address g.command p) ns)
frame_spares ns at p out (Err why) = λ d k. (refl, refl)

valid_spares : (v : Bool) (ns : List Node) (at : ℕ) (p out : List ℕ) → Spares ns out (cond v (on_frame at (frame_alone p) p ns out) (refused_delivery Range ns out))
valid_spares true ns at p out = frame_spares ns at p out (frame_alone p)
valid_spares false ns at p out = λ d k. (refl, refl)

pub deliver_spares : (ns : List Node) (at : ℕ) (p out : List ℕ) → Spares ns out (deliver_of ns at p out)
unfolding deliver_of
deliver_spares ns at p out = valid_spares (valid ns) ns at p out
