-- What a delivery tells of packets that stand alone, of those with bytes left over, of long and of brief ones, and of the reply buffer.
use Rattle.std.proofs.Common.{◌≡◌, ℕ, ◌<◌, ◌≤◌, Bool, true, false, cond, not, eqb, ltb, List, length, get_or, take, Result, Ok, Err, refl, ap, ◌∙◌, arith, length-take-le, get_or-take, le-ltb, lt-ltb}
use Rattle.packet.specs.declared.Framed.{Framed}
use Rattle.wire.specs.Promise.{Outcome}
use Rattle.buffer.specs.Buffer.{written}
use Rattle.wire.specs.declared.address.Address.{Address}
use Rattle.wire.specs.declared.refusal.Refusal.{Refusal}
use Rattle.wire.specs.declared.refusal.Refusal.TheVariants.{Short, Header, Long, Room, Range}
use Rattle.wire.proofs.Impossible.{impossible}
use Rattle.buffer.proofs.Writing.{written_long}
use Rattle.packet.specs.Packet.{end_of, parts_of, frame_of, whole}
use Rattle.packet.proofs.Refusals.{Unframed, frame_refuses}
use Rattle.packet.proofs.Refusals as unframed
use Rattle.status.specs.Status.{most_reply}
use Rattle.node.specs.declared.state.Node.{Node}
use Rattle.message.specs.declared.Messages.{Messages}
use Rattle.message.specs.Message.{message_to}
use Rattle.reply.specs.Reply.{mask_for}
use Rattle.mask.proofs.Counts.{size_range}
use Rattle.reply.proofs.Replies.{reply_length_lem}
use Rattle.survey.specs.declared.decision.Delivery.{Delivery}
use Rattle.survey.specs.declared.decision.Delivery.TheVariants.{Replied}
use Rattle.survey.specs.One.{messages_as}
use Rattle.survey.specs.Chain.{Said, silence, reply, collided, said, blank_node}
use Rattle.survey.specs.Delivery.{Lent, valid, on_built, on_said, alone, frame_alone, on_frame, delivered_to, deliver_of, refused_delivery}
use Rattle.survey.proofs.Meaning.{said_says}

-- ---- a packet with nothing behind it is the one that reading finds

pub stands_alone : (p : List ℕ) (to : Address) (k n : ℕ) → frame_of p ≡ whole to k n → length p ≤ n → frame_alone p ≡ whole to k n
unfolding frame_alone
stands_alone p to k n f h = rw (f, le-ltb n (length p) h)

-- left-over bytes are 3, whatever the sum, whoever is meant, whatever room there is; 6 comes first
pub left_over : (ns : List Node) (at : ℕ) (p out : List ℕ) (to : Address) (k n : ℕ) → valid ns ≡ true → frame_of p ≡ whole to k n → n < length p
    → deliver_of ns at p out ≡ refused_delivery Long ns out
unfolding deliver_of frame_alone
left_over ns at p out to k n v f h = rw (v, f, lt-ltb n (length p) h)

-- ---- a packet of 20 bytes or more is refused for what its first 20 are refused for: no packet has more than 19

abbrev overlong : ℕ → Result Framed Refusal
overlong head = cond (not (eqb head 0xAA)) (Err Header) (Err Long)

frame_over : (p : List ℕ) → 20 ≤ length p → get_or p 2 0 < 256 → frame_alone p ≡ overlong (get_or p 0 0)
unfolding frame_of frame_alone
frame_over p h b =
    rw (le-ltb (length p) 1 (omega arith), le-ltb (length p) 4 (omega arith), le-ltb (length p) (end_of p) (omega arith)) (go (not (eqb (get_or p 0 0) 0xAA)))
  where
    go : (n : Bool) → alone p (cond n (Err Header) (parts_of p)) ≡ cond n (Err Header) (Err Long)
    go true = refl
    go false = rw (lt-ltb (end_of p) (length p) (omega arith))

on_overlong : (at : ℕ) (t : Bool) (p q : List ℕ) (ns : List Node) (out : List ℕ)
    → on_frame at (cond t (Err Header) (Err Long)) p ns out ≡ on_frame at (cond t (Err Header) (Err Long)) q ns out
on_overlong at true p q ns out = refl
on_overlong at false p q ns out = refl

pub deliver_long : (ns : List Node) (at : ℕ) (p out : List ℕ) → 20 ≤ length p → get_or p 2 0 < 256 → deliver_of ns at (take 20 p) out ≡ deliver_of ns at p out
unfolding deliver_of
deliver_long ns at p out h b =
    let n : length (take 20 p) ≡ 20 = length-take-le 20 p h in
    let b2 : get_or (take 20 p) 2 0 ≡ get_or p 2 0 = get_or-take 20 p 2 0 (omega arith) in
    let b0 : get_or (take 20 p) 0 0 ≡ get_or p 0 0 = get_or-take 20 p 0 0 (omega arith) in
    let f : frame_alone (take 20 p) ≡ overlong (get_or p 0 0) = frame_over (take 20 p) (omega arith) (omega arith) ∙ ap overlong b0 in
    rw (f, frame_over p h b, on_overlong at (not (eqb (get_or p 0 0) 0xAA)) (take 20 p) p ns out)

-- ---- fewer than 4 bytes are never replied to

-- what holds of the three refusals holds of such a delivery
pub deliver_brief : (ns : List Node) (at : ℕ) (p out : List ℕ) → length p < 4 → (Q : Outcome (Result Delivery Refusal) Lent → Type 0)
    → Q (refused_delivery Short ns out) → Q (refused_delivery Header ns out) → Q (refused_delivery Range ns out) → Q (deliver_of ns at p out)
unfolding deliver_of frame_of frame_alone
deliver_brief ns at p out h Q short header range =
    rw (lt-ltb (length p) 4 h) (go (valid ns) (ltb (length p) 1) (not (eqb (get_or p 0 0) 0xAA)))
  where
    go : (v e n : Bool) → Q (cond v (on_frame at (alone p (cond e (Err Short) (cond n (Err Header) (Err Short)))) p ns out) (refused_delivery Range ns out))
    go false e n = range
    go true true n = short
    go true false true = header
    go true false false = short

-- ---- the reply buffer keeps its length

built_left : (b : Result ℕ Refusal) (at : ℕ) (to : Address) (h : Messages) (ns : List Node) (out : List ℕ) → (on_built b at to h ns out).left.reply ≡ out
built_left (Ok n) at to h ns out = refl
built_left (Err why) at to h ns out = refl

said_left : (s : Said) (at : ℕ) (to : Address) (h : Messages) (ns : List Node) (out : List ℕ) → length (on_said s at to h ns out).left.reply ≡ length out
said_left silence at to h ns out = refl
said_left (reply r) at to h ns out = ap length (built_left (written r out).answer at to h ns (written r out).left) ∙ written_long r out
said_left collided at to h ns out = refl

frame_left : (at : ℕ) (f : Result Framed Refusal) (p : List ℕ) (ns : List Node) (out : List ℕ) → length (on_frame at f p ns out).left.reply ≡ length out
unfolding delivered_to
frame_left at (Ok g) p ns out = said_left (said at g.address (messages_as g.address g.command p) ns) at g.address (messages_as g.address g.command p) ns out
frame_left at (Err why) p ns out = refl

pub deliver_left : (ns : List Node) (at : ℕ) (p out : List ℕ) → length (deliver_of ns at p out).left.reply ≡ length out
unfolding deliver_of
deliver_left ns at p out = go (valid ns)
  where
    go : (v : Bool) → length (cond v (on_frame at (frame_alone p) p ns out) (refused_delivery Range ns out)).left.reply ≡ length out
    go true = frame_left at (frame_alone p) p ns out
    go false = refl

-- ---- 5 never comes up over a reply buffer as long as the longest reply

-- none of these is 5
not_room : {why : Refusal} → Unframed why → why ≡ Room → ⊥
not_room unframed.short e = impossible cc
not_room unframed.header e = impossible cc

-- the chain refuses a packet for what the frame is refused for, or for left-over bytes
frame_whys : (p : List ℕ) → frame_alone p ≡ Err Room → ⊥
unfolding frame_alone
frame_whys p e = by_frame (frame_of p) refl e
  where
    ends : (t : Bool) (to : Address) (k n : ℕ) → cond t (Err Long) (whole to k n) ≡ Err Room → ⊥
    ends true to k n e = impossible cc
    ends false to k n e = impossible cc

    by_frame : (f : Result Framed Refusal) → frame_of p ≡ f → alone p f ≡ Err Room → ⊥
    by_frame (Ok g) r e = ends (ltb g.end (length p)) g.address g.command g.end e
    by_frame (Err why) r e = let z : why ≡ Room = cc in not_room (frame_refuses p why r) z

module _ (ns : List Node) (out : List ℕ) (room : most_reply ≤ length out) where
  reply_fits : (at : ℕ) (to : Address) (h : Messages) (r : List ℕ) → said at to h ns ≡ reply r → length r ≤ length out
  reply_fits at to h r e =
      let q = said_says at to h ns r e in
      let n = get_or ns q.at blank_node in
      let own = message_to n.kind h in
      rw q.bytes (omega (arith, reply_length_lem own n, (size_range n.kind (mask_for own n)).1))

  said_roomy : (s : Said) (at : ℕ) (to : Address) (h : Messages) → said at to h ns ≡ s → (on_said s at to h ns out).answer ≡ Err Room → ⊥
  unfolding written
  said_roomy silence at to h e x = impossible cc
  said_roomy (reply r) at to h e x =
      let y : ◌≡◌ {A = Result Delivery Refusal} (Ok (Replied (length r))) (Err Room) = rw (le-ltb (length out) (length r) (reply_fits at to h r e)) at x in
      impossible cc
  said_roomy collided at to h e x = impossible cc

  frame_roomy : (at : ℕ) (f : Result Framed Refusal) (p : List ℕ) → frame_alone p ≡ f → (on_frame at f p ns out).answer ≡ Err Room → ⊥
  unfolding delivered_to
  frame_roomy at (Ok g) p e x = said_roomy (said at g.address (messages_as g.address g.command p) ns) at g.address (messages_as g.address g.command p) refl x
  frame_roomy at (Err why) p e x =
      let y : why ≡ Room = cc in
      frame_whys p (e ∙ ap Err y)

  pub never_five : (at : ℕ) (p : List ℕ) → (deliver_of ns at p out).answer ≡ Err Room → ⊥
  unfolding deliver_of
  never_five at p = go (valid ns)
    where
      go : (v : Bool) → (cond v (on_frame at (frame_alone p) p ns out) (refused_delivery Range ns out)).answer ≡ Err Room → ⊥
      go true x = frame_roomy at (frame_alone p) p refl x
      go false x = impossible cc
