-- The mask tells how long the packet is; then it is begun, and grows by all its items.
use Rattle.std.proofs.Common.{◌≡◌, ℕ, ◌+◌, ◌^◌, ◌<◌, ◌≤◌, Bool, true, false, List, length, sym, ap, ◌∙◌, arith, leb-false, leb-true, Ok, Err}
use Rattle.wire.specs.Numbers.{number_by}
use borrow.Author.Tests.{not-true, not-false}
use Rattle.wire.specs.Promise.{Lending}
use Rattle.wire.specs.declared.kind.Kind.{Kind}
use Rattle.wire.specs.declared.refusal.Refusal.TheVariants.{Room}
use Rattle.buffer.specs.Buffer.{written}
use Rattle.buffer.proofs.Writing.{no_room}
use Rattle.status.proofs.Replies.{status_length}
use Rattle.node.specs.declared.state.Node.{Node}
use Rattle.message.specs.declared.Message.{Message}
use Rattle.message.specs.declared.Message.TheVariants.{Intact, Other, Spoilt}
use Rattle.node.specs.declared.state.Shown.{Shown}
use Rattle.node.specs.Node.{take_of, shown_of, mask_after}
use Rattle.node.proofs.Laws.{kind_stays}
use Rattle.mask.specs.Mask.{size_of}
use Rattle.mask.proofs.Counts.{size_range}
use Rattle.reply.specs.Items.{reply_items}
use Rattle.reply.specs.Grown.{has_room, reply_begin, Grown}
use Rattle.reply.specs.Reply.{mask_of, mask_for, status_byte, reply_of}
use Rattle.reply.proofs.Counts.{items_size, items_fit}
use Rattle.reply.proofs.Growing.{begun_room, grown_size, grown_whole}
use Rattle.reply.proofs.Replies.{reply_length_lem}
use Rattle.reply.proofs.reply.Goals as goal

-- where the packet under a mask has room, so have its status byte and sum
module _ (k : Kind) (m room : ℕ) (t : Bool) (e : t ≡ has_room k m room) (h : t ≡ true) where
  begin_room : 2 ≤ room
  begin_room = omega (arith, (size_range k m).0, leb-true (size_of k m) room (sym e ∙ h))

  roomy : (x : Shown) → x.kind ≡ k → 2 + length (reply_items m x) ≤ room
  roomy x f =
      let s : 2 + length (reply_items m x) ≡ size_of k m = items_size m x ∙ ap (λ (j : Kind). size_of j m) f in
      omega (arith, leb-true (size_of k m) room (sym e ∙ h))

-- what a node shows once it has acted is of its kind
shown_kind : (h : Message) (n : Node) (x : Shown) → x ≡ shown_of (take_of h n) → x.kind ≡ n.kind
shown_kind h n x e = ap (λ (y : Shown). y.kind) e ∙ kind_stays h n

-- and, once the packet is begun, its items have room
items_room : (h : Message) (n : Node) (m b at : ℕ) (x : Shown) (out o : List ℕ) (t : Bool) → x ≡ shown_of (take_of h n) → t ≡ has_room n.kind m (length out) → t ≡ true
    → record { answer = at; left = o } ≡ reply_begin b out → at + length (reply_items m x) < length o
items_room h n m b at x out o t ex e f s = begun_room b out o at s (reply_items m x) (roomy n.kind m (length out) t e f x (shown_kind h n x ex))

-- no packet is long
short : (m : ℕ) (x : Shown) (b at r : ℕ) (out o left : List ℕ) → record { answer = at; left = o } ≡ reply_begin b out → Grown (reply_items m x) at o r left → r + 1 < 2 ^ 64
short m x b at r out o left s g = omega (arith, grown_size b out o at s (reply_items m x) left r g, status_length b (reply_items m x), items_fit m x)

byte : (h : Message) → status_byte h < 256
byte (Intact c) = omega arith
byte Other = omega arith
byte Spoilt = omega arith

module _ (h : Message) (n : Node) (held m : ℕ) (out : List ℕ) (t : Bool) (ta : held ≡ mask_after h n) (tm : m ≡ mask_of h held) (tr : t ≡ has_room n.kind m (length out)) where
  masked : m ≡ mask_for h n
  masked = tm ∙ ap (mask_of h) ta

  refuses : t ≡ false → Lending number_by (Err Room) out (written (reply_of h n) out)
  refuses e =
      let k : length out < size_of n.kind m = leb-false (size_of n.kind m) (length out) (sym tr ∙ e) in
      no_room (reply_of h n) out (rw (reply_length_lem h n, ← masked) k)

  sent : (x : Shown) (b at r : ℕ) (o left : List ℕ) → t ≡ true → b ≡ status_byte h → x ≡ shown_of (take_of h n) → record { answer = at; left = o } ≡ reply_begin b out
      → Grown (reply_items m x) at o r left → Lending number_by (Ok (r + 1)) left (written (reply_of h n) out)
  unfolding reply_of
  sent x b at r o left e tb ex s g =
      let whole = grown_whole b out o at s (reply_items m x) left r g (rw tb (byte h)) (roomy n.kind m (length out) t tr e x (shown_kind h n x ex)) in
      rw (tb, masked, ex) at whole

pub returns-then-not-has_room : goal.returns-then-not-has_room
returns-then-not-has_room c = search (refuses, not-true)

pub begin-begun-requires : goal.begin-begun-requires
begin-begun-requires c = search (begin_room, not-false)

pub put_items-end-requires : goal.put_items-end-requires
put_items-end-requires c = search (items_room, not-false)

pub overflow_add-result : goal.overflow_add-result
overflow_add-result c = record { fits = search short }

pub returns : goal.returns
returns c = search (sent, not-false)
