-- From the sending of a packet to its report: what the line does to bytes, as what it does to nodes and what the answer tells.
use Prim.Native.Nat.{ℕ, ◌<◌}
use Rattle.std.specs.Prelude.{Option as Reading, Some, None}
use mathlib.Core.Bool.{Bool, true, false, cond, ◌&&◌, true≢false, false≢true}
use mathlib.Core.List.{List, [], append-nil}
use mathlib.Core.Option.{Option}
use mathlib.Core.Path.{◌≡◌, refl, sym, ap, subst, ◌∙◌}
use native.Mathlib.Nat.{le_refl, le_of_eq}
use lib.ListN.{length, get_or}
use lib.Seq.{take-length}
use Rattle.wire.specs.Address.{in_range, address_of}
use Rattle.buffer.specs.Change.{Altered, Damaged}
use Rattle.wire.specs.declared.kind.Kind.{Kind}
use Rattle.wire.specs.declared.kind.Kind.TheVariants.{Gate, Drive}
use Rattle.wire.specs.declared.address.Address.{Address}
use Rattle.wire.specs.declared.address.Address.TheVariants as address
use Rattle.wire.proofs.Choice.{both}
use Rattle.packet.specs.Packet.{frame_of, is_intact, whole}
use Rattle.buffer.proofs.Sums.{changed_length}
use Rattle.packet.proofs.Packets.{read_says, damaged_frames, damaged_spoilt}
use Rattle.command.specs.declared.Command.{Command}
use Rattle.command.specs.Ranges.{fits_of}
use Rattle.command.specs.Owner.{has}
use Rattle.codec.specs.Reading.{codec_read}
use Rattle.codec.specs.Build.{code_of, own_data, Typed, packet_for}
use Rattle.codec.proofs.Commands.{Frames, built_frames, read_back}
use Rattle.command.specs.Role.{role_of, is_reset}
use Rattle.status.specs.Status.{judge_of, cleared}
use Rattle.status.specs.declared.Answer.{Answer}
use Rattle.status.specs.declared.Answer.TheVariants.{Clear, Marked, Silent}
use Rattle.node.specs.declared.state.Node.{Node}
use Rattle.message.specs.declared.Message.{Message}
use Rattle.message.specs.declared.Message.TheVariants.{Intact, Other, Spoilt}
use Rattle.message.specs.declared.Messages.{Messages}
use Rattle.message.specs.Message.{is_taken, message_of, messages_of, message_to}
use Rattle.node.specs.Effect.{settings_after}
use Rattle.node.specs.Node.{does_heed, addressed_after, take_of}
use Rattle.node.proofs.Laws.{acted_settings, acted_addressed, kind_stays}
use Rattle.reply.specs.Reply.{status_byte}
use Rattle.reply.proofs.Replies.{reply_judged, altered_silent}
use Rattle.survey.specs.One.{messages_as, is_meant, is_answering, to_both, take_for}
use Rattle.survey.specs.Chain.{after, Said, collided, hears_at, replies_at}
use Rattle.survey.specs.Delivery.{frame_alone}
use Rattle.survey.proofs.Lengths.{stands_alone}
use Rattle.survey.proofs.Repliers.{Speaks}
use Rattle.survey.proofs.Meaning.{length_after, after_at, said_alike, spoilt_stays}
use Rattle.line.specs.Line.{Arrival, Arrives, Nothing, Returns, parted, nodes_after, said_among, said_after, answer_in}
use Rattle.line.specs.Line as line
use Rattle.line.proofs.Invariant.{at, acts, Answered, Exchanged}
use Rattle.line.proofs.Getting.{Calling, length_parted, parted_at, parted_same, among_says}

-- whatever kind a node is, its reply has this status byte
abbrev Shows : Messages → ℕ → Type 0
Shows m b = (k : Kind) → status_byte (message_to k m) ≡ b

-- what is said: nothing, or the reply of a node that gets the packet
data Voice (gets : ℕ → Bool) (v : ℕ) (to : Address) (m : Messages) (ns : List Node) (b : ℕ) : Answer → Type 0 where
  silent : Voice gets v to m ns b Silent
  spoke : (r : List ℕ) → Speaks (Calling gets v to ns) m ns r → Voice gets v to m ns b (cleared b)

pub nothing_silent : {t : Option (List ℕ)} → Nothing t → answer_in t ≡ Silent
unfolding judge_of
nothing_silent line.absent = refl
nothing_silent line.empty = refl

voice : (gets : ℕ → Bool) (v : ℕ) (to : Address) (m : Messages) (ns : List Node) (b : ℕ) → Shows m b → (said_among gets v to m ns ≡ collided → ⊥) → {s : Said} {r : Option (List ℕ)}
    → said_among gets v to m ns ≡ s → Returns s r → Voice gets v to m ns b (answer_in r)
voice gets v to m ns b h n e (line.quietly o) = rw (nothing_silent o) silent
voice gets v to m ns b h n e (line.whole {r = r}) =
    let p = among_says gets v to m ns r e in
    let k = (at ns p.at).kind in
    let j : judge_of r ≡ cleared b = ap judge_of p.bytes ∙ reply_judged (message_to k m) (at ns p.at) ∙ ap cleared (h k) in
    rw j (spoke r p)
voice gets v to m ns b h n e (line.altered {r = r} {t = t} a) =
    let p = among_says gets v to m ns r e in
    let j : judge_of t ≡ Silent = altered_silent (message_to (at ns p.at).kind m) (at ns p.at) t (subst (λ (l : List ℕ). Altered l t) p.bytes a) in
    rw j silent
voice gets v to m ns b h n e (line.lost o) = rw (nothing_silent o) silent
voice gets v to m ns b h n e line.mixed = absurd (n e)

-- bytes that are a whole packet, and the nodes that get them
module _ (ns : List Node) (v : ℕ) (q : List ℕ) (gets : ℕ → Bool) (to : Address) (k n : ℕ) (m : Messages) (f : frame_alone q ≡ whole to k n) (e : messages_as to k q ≡ m) where
  nodes_are : nodes_after (record { at = v; bytes = q; gets = gets }) ns ≡ parted gets ns (after v to m ns)
  nodes_are = rw (f, e) refl

  said_framed : said_after (record { at = v; bytes = q; gets = gets }) ns ≡ said_among gets v to (messages_as to k q) ns
  said_framed = rw f refl

  said_is : said_after (record { at = v; bytes = q; gets = gets }) ns ≡ said_among gets v to m ns
  said_is = said_framed ∙ ap (λ (x : Messages). said_among gets v to x ns) e

-- whoever replies to an address is one that acts on it
replies_acts : (v : ℕ) (to : Address) (ns : List Node) (i : ℕ) → replies_at v to ns i ≡ true → acts v to ns i ≡ true
replies_acts v (address.Individual j) ns i e = e
replies_acts v (address.Group g) ns i e =
    let p = both (hears_at v ns i) (is_answering (address.Group g) (at ns i).settings.place) e in
    rw p.0 (both (at ns i).settings.place.leader (is_meant (address.Group g) (at ns i).settings.place) p.1).1

-- what the packet of command c to this address says to either kind
abbrev pub spoken : Address → Command → Messages
spoken to c = messages_of (codec_read Gate (code_of c) (own_data c)) (codec_read Drive (code_of c) (own_data c)) to true

-- its sum is right, so bit 1 of the status byte is clear
taken_zero : (b : Bool) (c : Command) → status_byte (cond b (Intact c) Other) ≡ 0
taken_zero true c = refl
taken_zero false c = refl

intact_zero : (r : Reading Command) (to : Address) → status_byte (message_of r to true) ≡ 0
intact_zero (Some c) to = taken_zero (is_taken to c) c
intact_zero None to = refl

spoken_clear : (to : Address) (c : Command) → Shows (spoken to c) 0
spoken_clear to c Gate = intact_zero (codec_read Gate (code_of c) (own_data c)) to
spoken_clear to c Drive = intact_zero (codec_read Drive (code_of c) (own_data c)) to

spoilt_marked : Shows (to_both Spoilt) 2
spoilt_marked k = ap status_byte (said_alike Spoilt k)

-- to a kind that has it, it is the command, if that is taken under its address
spoken_own : (k : Kind) (to : Address) (c : Command) → fits_of c ≡ true → Typed c → is_taken to c ≡ true → has k c ≡ true → message_to k (spoken to c) ≡ Intact c
spoken_own Gate to c f t u h = rw (read_back Gate c h f t, u)
spoken_own Drive to c f t u h = rw (read_back Drive c h f t, u)

-- a node that has a command and heeds it
abbrev pub Suits : Command → Node → Type 0
Suits c n = (has n.kind c ≡ true) × (does_heed n.kind (role_of c) ≡ true)

module _ (to : Address) (c : Command) (fits : fits_of c ≡ true) (typed : Typed c) (unreset : is_reset (role_of c) ≡ false) (taken : is_taken to c ≡ true) where
  taken_own : (x : Node) → Suits c x → take_for (spoken to c) x ≡ take_of (Intact c) x
  taken_own x u = ap (λ (m : Message). take_of m x) (spoken_own x.kind to c fits typed taken u.0)

  -- what a node that gets a command, if it does, and acts on it, if it does, holds afterwards
  settings_if : (got b : Bool) (x : Node) → (b ≡ true → Suits c x)
      → (cond got (cond b (take_for (spoken to c) x) x) x).settings ≡ cond (got && b) (settings_after c x.settings) x.settings
  settings_if true true x u = ap (λ (n : Node). n.settings) (taken_own x (u refl)) ∙ acted_settings c x (u refl).0 (u refl).1 unreset
  settings_if true false x u = refl
  settings_if false b x u = refl

  addressed_if : (got b : Bool) (x : Node) → (b ≡ true → Suits c x)
      → (cond got (cond b (take_for (spoken to c) x) x) x).addressed ≡ cond (got && b) (addressed_after (role_of c) x.addressed) x.addressed
  addressed_if true true x u = ap (λ (n : Node). n.addressed) (taken_own x (u refl)) ∙ acted_addressed c x (u refl).1
  addressed_if true false x u = refl
  addressed_if false b x u = refl

kind_if : (m : Messages) (got b : Bool) (x : Node) → (cond got (cond b (take_for m x) x) x).kind ≡ x.kind
kind_if m true true x = kind_stays (message_to x.kind m) x
kind_if m true false x = refl
kind_if m false b x = refl

module _ (v : ℕ) (to : Address) (c : Command) (ns : List Node) where
  -- it came whole
  module _ (gets : ℕ → Bool) where
    not_marked : {a : Answer} → Voice gets v to (spoken to c) ns 0 a → a ≡ Marked → ⊥
    not_marked silent e = true≢false (cc e)
    not_marked (spoke r p) e = true≢false (cc e)

    answered : {a : Answer} → Voice gets v to (spoken to c) ns 0 a → a ≡ Clear → Answered v to ns (λ i. gets i && acts v to ns i)
    answered silent e = absurd (true≢false (cc e))
    answered (spoke r p) e =
        let o = p.is in
        record { index = p.at; inside = o.0.0; replies = o.0.1; acted = rw o.1 (replies_acts v to ns p.at o.0.1) }

    came_at : (i : ℕ) → i < length ns
        → at (parted gets ns (after v to (spoken to c) ns)) i ≡ cond (gets i) (cond (acts v to ns i) (take_for (spoken to c) (at ns i)) (at ns i)) (at ns i)
    came_at i l =
        parted_at gets ns (after v to (spoken to c) ns) i (length_after v to (spoken to c) ns) l
        ∙ ap (λ (x : Node). cond (gets i) x (at ns i)) (after_at v to (spoken to c) ns i l)

    came_whole : fits_of c ≡ true → Typed c → is_reset (role_of c) ≡ false → is_taken to c ≡ true → ((i : ℕ) → i < length ns → acts v to ns i ≡ true → Suits c (at ns i))
        → {a : Answer} → Voice gets v to (spoken to c) ns 0 a → Exchanged v to c ns (parted gets ns (after v to (spoken to c) ns)) a
    came_whole fits typed unreset taken u o = record {
      did = λ i. gets i && acts v to ns i;
      acting = λ i e. (both (gets i) (acts v to ns i) e).1;
      long = length_parted gets ns (after v to (spoken to c) ns);
      settings = λ i l. ap (λ (x : Node). x.settings) (came_at i l) ∙ settings_if to c fits typed unreset taken (gets i) (acts v to ns i) (at ns i) (u i l);
      addressed = λ i l. ap (λ (x : Node). x.addressed) (came_at i l) ∙ addressed_if to c fits typed unreset taken (gets i) (acts v to ns i) (at ns i) (u i l);
      kind = λ i l. ap (λ (x : Node). x.kind) (came_at i l) ∙ kind_if (spoken to c) (gets i) (acts v to ns i) (at ns i);
      marked = λ e i. absurd (not_marked o e);
      clear = answered o;
    }

  -- it came with a wrong sum: nothing changes
  unchanged : {a : Answer} → (a ≡ Clear → ⊥) → Exchanged v to c ns ns a
  unchanged n = record {
    did = λ i. false;
    acting = λ i e. absurd (false≢true e);
    long = refl;
    settings = λ i l. refl;
    addressed = λ i l. refl;
    kind = λ i l. refl;
    marked = λ e i. refl;
    clear = λ e. absurd (n e);
  }

  spoilt_not_clear : {gets : ℕ → Bool} {b : Address} {a : Answer} → Voice gets v b (to_both Spoilt) ns 2 a → a ≡ Clear → ⊥
  spoilt_not_clear silent e = true≢false (cc e)
  spoilt_not_clear (spoke r p) e = true≢false (cc e)

  module _ (range : in_range to ≡ true) where
    -- what a packet of ours says, as it was sent and damaged
    pub record Means (q : List ℕ) (gets : ℕ → Bool) (a : Address) (m : Messages) : Type 0 where
      pub nodes : nodes_after (record { at = v; bytes = q; gets = gets }) ns ≡ parted gets ns (after v a m ns)
      pub speaks : said_after (record { at = v; bytes = q; gets = gets }) ns ≡ said_among gets v a m ns

    abbrev long : ℕ
    long = length (packet_for to c)

    framed : Frames (packet_for to c) to c long
    framed = subst (λ (s : List ℕ). Frames s to c long) (append-nil (packet_for to c)) (built_frames to c range [])

    own : (frame_of (packet_for to c) ≡ whole to (code_of c) long) × (is_intact (packet_for to c) ≡ true)
    own =
        let s = read_says (packet_for to c) to (code_of c) long framed.whole in
        (s.0, ap is_intact (sym (take-length (packet_for to c))) ∙ s.1)

    pub whole_means : (gets : ℕ → Bool) → Means (packet_for to c) gets to (spoken to c)
    whole_means gets =
        let f = stands_alone (packet_for to c) to (code_of c) long own.0 (le_refl long) in
        let h : messages_as to (code_of c) (packet_for to c) ≡ spoken to c = rw (own.1, framed.bytes) refl in
        record {
          nodes = nodes_are ns v (packet_for to c) gets to (code_of c) long (spoken to c) f h;
          speaks = said_is ns v (packet_for to c) gets to (code_of c) long (spoken to c) f h;
        }

    pub damaged_means : (q : List ℕ) (gets : ℕ → Bool) → Damaged (packet_for to c) q → Means q gets (address_of (get_or q 1 0)) (to_both Spoilt)
    damaged_means q gets d =
        let g = damaged_frames (packet_for to c) q to (code_of c) long framed.whole d d.change.inside in
        let f = stands_alone q (address_of (get_or q 1 0)) (code_of c) long g (le_of_eq (changed_length d.change)) in
        let h : messages_as (address_of (get_or q 1 0)) (code_of c) q ≡ to_both Spoilt = rw (damaged_spoilt (packet_for to c) q own.1 d) refl in
        record {
          nodes = nodes_are ns v q gets _ (code_of c) long (to_both Spoilt) f h;
          speaks = said_is ns v q gets _ (code_of c) long (to_both Spoilt) f h;
        }

    -- from the sending to the report
    pub exchanged : fits_of c ≡ true → Typed c → is_reset (role_of c) ≡ false → is_taken to c ≡ true → ((i : ℕ) → i < length ns → acts v to ns i ≡ true → Suits c (at ns i))
        → ((gets : ℕ → Bool) (w : ℕ) (b : Address) (m : Messages) → said_among gets w b m ns ≡ collided → ⊥) → {q : Arrival} {r : Option (List ℕ)}
        → Arrives v (packet_for to c) q → Returns (said_after q ns) r → Exchanged v to c ns (nodes_after q ns) (answer_in r)
    exchanged fits typed unreset taken u n (line.whole {gets = gets}) b =
        let m = whole_means gets in
        rw m.nodes (came_whole gets fits typed unreset taken u (voice gets v to (spoken to c) ns 0 (spoken_clear to c) (n gets v to (spoken to c)) (sym m.speaks) b))
    exchanged fits typed unreset taken u n (line.damaged {q = q} {gets = gets} d) b =
        let m = damaged_means q gets d in
        let a : Address = address_of (get_or q 1 0) in
        rw (m.nodes, spoilt_stays v a ns, parted_same gets ns)
        (unchanged (spoilt_not_clear (voice gets v a (to_both Spoilt) ns 2 spoilt_marked (n gets v a (to_both Spoilt)) (sym m.speaks) b)))
