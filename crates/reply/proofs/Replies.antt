-- What a reply is: its length, how the host judges it, that it reads back under its mask as its items, and what the builder writes.
use Rattle.std.proofs.Common.{◌≡◌, ℕ, ◌≤◌, false, List, length, take, sym, refl, ap, ◌∙◌, Ok}
use Rattle.wire.specs.Kind.{is_gate}
use Rattle.wire.specs.declared.kind.Kind.{Kind}
use Rattle.wire.proofs.Choice.{same}
use Rattle.buffer.specs.Buffer.{at_start, written}
use Rattle.buffer.specs.Change.{Altered}
use Rattle.buffer.proofs.Writing.{wrote, written_wrote, written_fits}
use Rattle.status.specs.Status.{counts, status_read, items_part, cleared, judge_of}
use Rattle.status.specs.declared.Answer.TheVariants.{Clear, Marked, Silent}
use Rattle.status.proofs.Replies.{status_length, packet_reads, packet_items, accepted_packet, judged_packet, judged_altered}
use Rattle.command.specs.declared.Command.{Command}
use Rattle.command.specs.declared.Command.TheVariants.{DefineStatus, ReadStatus, Nop, ResetPosition}
use Rattle.node.specs.declared.state.Node.{Node}
use Rattle.node.specs.declared.state.Shown.{Shown}
use Rattle.message.specs.declared.Message.{Message}
use Rattle.message.specs.declared.Message.TheVariants.{Intact, Other, Spoilt}
use Rattle.node.specs.Node.{take_of, shown_of}
use Rattle.node.proofs.Laws.{kind_stays}
use Rattle.mask.specs.Mask.{count_from, size_of, mask_read}
use Rattle.reply.specs.Items.{reply_items}
use Rattle.reply.specs.Reply.{mask_for, status_byte, reply_of}
use Rattle.reply.proofs.Counts.{items_length, items_size, items_fit}

-- ---- length

pub reply_length_lem : (h : Message) (n : Node) → length (reply_of h n) ≡ size_of n.kind (mask_for h n)
unfolding reply_of
reply_length_lem h n =
    let m : ℕ = mask_for h n in
    status_length (status_byte h) (reply_items m (shown_of (take_of h n))) ∙ items_size m (shown_of (take_of h n)) ∙ ap (λ (k : Kind). size_of k m) (kind_stays h n)

-- ---- what the host makes of a reply

-- every reply is good, and judged by its status byte
pub reply_judged : (h : Message) (n : Node) → judge_of (reply_of h n) ≡ cleared (status_byte h)
unfolding reply_of
reply_judged h n = judged_packet (status_byte h) (reply_items (mask_for h n) (shown_of (take_of h n))) (items_fit (mask_for h n) (shown_of (take_of h n)))

pub intact_clear : (c : Command) (n : Node) → judge_of (reply_of (Intact c) n) ≡ Clear
intact_clear c n = reply_judged (Intact c) n

pub other_clear : (n : Node) → judge_of (reply_of Other n) ≡ Clear
other_clear n = reply_judged Other n

-- "with bit 1 set"
pub spoilt_marked : (n : Node) → judge_of (reply_of Spoilt n) ≡ Marked
spoilt_marked n = reply_judged Spoilt n

-- a reply "with one byte changed"
pub altered_silent : (h : Message) (n : Node) (t : List ℕ) → Altered (reply_of h n) t → judge_of t ≡ Silent
unfolding reply_of
altered_silent h n t a = judged_altered (status_byte h) (reply_items (mask_for h n) (shown_of (take_of h n))) t a

-- ---- read back under the mask

-- as a whole status packet, with the status byte that was sent
pub reply_reads : (h : Message) (n : Node) → mask_read n.kind (mask_for h n) (reply_of h n) ≡ Ok (status_byte h)
unfolding reply_of mask_read
reply_reads h n =
    let m : ℕ = mask_for h n in
    let x : Shown = shown_of (take_of h n) in
    let e : length (reply_items m x) ≡ count_from 0 m (counts n.kind) = items_length m x ∙ ap (λ (k : Kind). count_from 0 m (counts k)) (kind_stays h n) in
    rw (← e) (packet_reads (status_byte h) (reply_items m x))

-- and the items asked for, as the node shows them once it has acted
pub reply_items_lem : (h : Message) (n : Node) → items_part (reply_of h n) ≡ reply_items (mask_for h n) (shown_of (take_of h n))
unfolding reply_of
reply_items_lem h n = packet_items (status_byte h) (reply_items (mask_for h n) (shown_of (take_of h n)))

-- ---- what the builder writes

-- it answered k bytes: they read back under the mask as a whole status packet, with the status byte and the items of the node
module _ (h : Message) (n : Node) (out left : List ℕ) (k : ℕ) (e : written (reply_of h n) out ≡ wrote k left) where
  placed : take k left ≡ reply_of h n
  placed = written_wrote (reply_of h n) out left k e

  pub written_reads : mask_read n.kind (mask_for h n) (take k left) ≡ Ok (status_byte h)
  written_reads = rw placed (reply_reads h n)

  pub written_items : items_part (take k left) ≡ reply_items (mask_for h n) (shown_of (take_of h n))
  written_items = rw placed (reply_items_lem h n)

-- and an accepted status packet is the one that it writes, where it has room, for a node and a packet with these parts
pub accepted_written : (h : Message) (n : Node) (s out : List ℕ) (k : ℕ) → status_read s k ≡ Ok (status_byte h) → items_part s ≡ reply_items (mask_for h n) (shown_of (take_of h n))
    → length s ≤ length out → written (reply_of h n) out ≡ at_start s out
unfolding reply_of
accepted_written h n s out k e f l =
    let q : reply_of h n ≡ s = rw (← f) (sym (accepted_packet s k (status_byte h) e)) in
    rw q (written_fits s out l)

-- ---- others

-- "replied to as a Nop is"
pub other_as_nop : (n : Node) → reply_of Other n ≡ reply_of (Intact Nop) n
unfolding reply_of
other_as_nop n = rw (same (is_gate n.kind) n.captured, same (is_gate n.kind) n.position)

-- ---- values once the node has acted

-- Reset Position's own reply shows a drive's position zeroed
pub zeroed_shows : (n : Node) → is_gate n.kind ≡ false → (shown_of (take_of (Intact ResetPosition) n)).position ≡ 0
zeroed_shows n h = rw h

-- ---- which mask

-- Define Status is answered under the mask that it sets
pub define_mask : (m : ℕ) (n : Node) → mask_for (Intact (DefineStatus m)) n ≡ m
define_mask m n = refl

-- and so is whatever comes after it
pub defined_mask : (m : ℕ) (n : Node) → mask_for (Intact Nop) (take_of (Intact (DefineStatus m)) n) ≡ m
defined_mask m n = refl

-- Read Status is answered under its own mask, and what comes after it under the one held before
pub read_mask : (m : ℕ) (n : Node) → mask_for (Intact (ReadStatus m)) n ≡ m
read_mask m n = refl

pub read_once : (m : ℕ) (n : Node) → mask_for (Intact Nop) (take_of (Intact (ReadStatus m)) n) ≡ n.settings.mask
read_once m n = refl

-- "the reply uses the held mask"
pub spoilt_mask : (n : Node) → mask_for Spoilt n ≡ n.settings.mask
spoilt_mask n = refl
