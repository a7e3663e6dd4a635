-- Demand 3, proved; with it that no two nodes lead a group or reply at once, and that the chain's call delivers.
use Prim.Native.Nat.{ℕ, suc, ◌-◌, ◌≤◌, ◌<◌}
use mathlib.Core.Bool.{Bool, true, false, not, ◌&&◌, true≢false}
use mathlib.Core.List.{List}
use mathlib.Core.Logic.{◌↔◌}
use mathlib.Core.Path.{◌≡◌, refl, sym, ap, subst, ◌∙◌}
use native.Mathlib.Omega.{arith}
use lib.Dec.{eqb}
use borrow.Author.Tests.{not-false, eqb-true, eqb-false, eq-eqb, ne_eqb}
use lib.ListN.{length, get_or}
use Rattle.wire.specs.Address.{address_of}
use Rattle.wire.specs.declared.address.Group.{Group}
use Rattle.wire.specs.declared.address.Address.{Address}
use Rattle.wire.specs.declared.address.Address.TheVariants as address
use Rattle.command.specs.declared.Command.{Command}
use Rattle.command.specs.declared.Command.TheVariants.{SetBaudRate}
use Rattle.command.specs.Role.{role_of, is_pacing}
use Rattle.codec.specs.Build.{packet_for}
use Rattle.message.specs.declared.Message.TheVariants.{Spoilt}
use Rattle.node.specs.declared.state.Node.{Node}
use Rattle.node.specs.Setting.{Setting, place}
use Rattle.survey.specs.One.{to_both, is_answering, is_ranged}
use Rattle.survey.specs.Chain.{collided, silence}
use Rattle.entry.specs.Entry.{knows}
use Rattle.ledger.specs.Ledger.{blank_entry, is_answerable}
use Rattle.ledger.proofs.Ledgers.{free_says}
use Rattle.session.specs.declared.Session.{Session}
use Rattle.session.specs.Session.{entry_of}
use Rattle.line.specs.History.{Sending, sends, Sent, Counted, counted, in_doubt, Doubtful}
use Rattle.line.specs.Line.{Line, Arrival, Arrives, said_among, said_after}
use Rattle.line.specs.Line as line
use Rattle.line.specs.Demand3 as promised
use Rattle.line.proofs.Words.{same_words}
use Rattle.line.proofs.Exact.{Exact}
use Rattle.line.proofs.Closing.{entry_at}
use Rattle.line.proofs.Due.{Due, next, ask, order, regroup, paces}
use Rattle.line.proofs.Invariant.{at, Invariant}
use Rattle.line.proofs.Getting.{none_among}
use Rattle.line.proofs.Peace.{none_collided}
use Rattle.line.proofs.Delivery.{spoken, whole_means, damaged_means}
use Rattle.line.proofs.Calls.{delivers}
use Rattle.line.proofs.Course.{Opened, Going, LineHolds, when_idle, holds, steady}

-- an index, and the node's number
number : (k : ℕ) → 1 ≤ k → suc (k - 1) ≡ k
number k l = omega arith

in_words : (h : Session) (past : List Counted) (k : ℕ) (s : Setting) → Exact (entry_at h (k - 1)) past k
    → (knows (entry_of h k) s ≡ false) ↔ Doubtful past k s
in_words h past k s x =
    let w = same_words past k s in
    ((λ e. w.0 (not-false (in_doubt past k s) (sym (x.known s) ∙ e))), (λ d. x.known s ∙ ap not (w.1 d)))

pub demand3 : promised.Demand3
demand3 w comes up idle =
    let s = when_idle w.host w.nodes w.past w.line (holds comes up) idle in
    record {
      recorded = s.inv.long;
      known = λ k l m. s.inv.held (k - 1) (omega arith);
      doubt = λ k l m x.
          in_words w.host (counted w.past) k x
          (subst (λ (j : ℕ). Exact (entry_at w.host (k - 1)) (counted w.past) j) (number k l) (s.exactly (k - 1) (omega arith)));
    }

pub one_leader_lem : promised.OneLeader
one_leader_lem w comes up g j k a b c d p q =
    let s = steady w.host w.nodes w.past w.line (holds comes up) in
    let n = s.nodes in
    let e = s.inv.alone g.0 (j - 1) (k - 1) (omega arith) (omega arith) p q in
    omega arith

eqb_sym : (a b : ℕ) → eqb a b ≡ eqb b a
eqb_sym a b = go (eqb a b) refl
  where
    go : (t : Bool) → eqb a b ≡ t → t ≡ eqb b a
    go true e = sym (eq-eqb b a (sym (eqb-true a b e)))
    go false e = sym (ne_eqb b a (λ f. eqb-false a b e (sym f)))

sent_command : {a b : Address} {c d : Command} → sends a c ≡ sends b d → c ≡ d
sent_command e = cc

-- whoever gets the packet, it says what it says to one address
peace : (h : Session) (ns : List Node) (past : List Sent) (what : Sending) (v : ℕ) (p : List ℕ) → Going h ns past what v p
    → (q : Arrival) → Arrives v p q → said_after q ns ≡ collided → ⊥
peace h ns past what v p g q a c = go (rw g.packet at a) c
  where
    o : Opened h ns past what v
    o = g.opened

    go : {q : Arrival} → Arrives v (packet_for o.called o.command) q → said_after q ns ≡ collided → ⊥
    go (line.whole {gets = gets}) c =
        none_collided o.before ns o.inv gets v o.called (spoken o.called o.command) (sym (whole_means v o.called o.command ns o.range gets).speaks ∙ c)
    go (line.damaged {q = q} {gets = gets} d) c =
        none_collided o.before ns o.inv gets v (address_of (get_or q 1 0)) (to_both Spoilt) (sym (damaged_means v o.called o.command ns o.range q gets d).speaks ∙ c)

pub no_collision_lem : promised.NoCollision
no_collision_lem w comes up what v p o = go o (holds comes up)
  where
    go : {l : Line} → line.OnItsWay what v p l → LineHolds w.host w.nodes w.past l → (q : Arrival) → Arrives v p q → said_after q w.nodes ≡ collided → ⊥
    go line.awaited s = peace w.host w.nodes w.past what v p s
    go line.overdue s = peace s.waiting w.nodes s.earlier what v p s.sent

-- nobody answers for a group whose Set Baud Rate 19 lets pass: every place is known, and no node leads it
unled : (h : Session) (ns : List Node) → Invariant h ns → (g : Group) → is_answerable g h.n h.entries ≡ false → (i : ℕ) → i < length ns
    → is_answering (address.Group g) (at ns i).settings.place ≡ false
unled h ns inv g f i l =
    let m : i < h.n = omega (arith, inv.long) in
    let b = free_says 0 g h.n h.entries blank_entry inv.few f i m (omega (arith, inv.few, inv.full)) (λ e. omega arith) in
    let e : ((at ns i).settings.place.leader && eqb (at ns i).settings.place.group.0 g.0) ≡ false = rw (inv.held i m place b.known) at b.follows in
    ap (λ (t : Bool). (at ns i).settings.place.leader && t) (eqb_sym g.0 (at ns i).settings.place.group.0) ∙ e

silent : (h : Session) (ns : List Node) (past : List Sent) (g : Group) (d v : ℕ) (p : List ℕ) → Going h ns past (sends (address.Group g) (SetBaudRate d)) v p
    → (gets : ℕ → Bool) → said_after (record { at = v; bytes = p; gets = gets }) ns ≡ silence
silent h ns past g d v p s gets = rw s.packet ((whole_means v o.called o.command ns o.range gets).speaks ∙ go o.due refl)
  where
    o : Opened h ns past (sends (address.Group g) (SetBaudRate d)) v
    o = s.opened

    go : {what : Sending} {called to : Address} {c : Command} → Due o.before what called to c → what ≡ sends (address.Group g) (SetBaudRate d)
        → said_among gets v called (spoken called c) ns ≡ silence
    go (next l k) e = absurd (true≢false (cc e))
    go (ask l k) e = absurd (true≢false (cc e))
    go (order {c = c} w n f y z) e = absurd (true≢false (sym (ap (λ (x : Command). is_pacing (role_of x)) (sent_command e)) ∙ z))
    go (regroup w n f) e = absurd (true≢false (cc e))
    go (paces {g = j} {d = x} w f) e = none_among gets v (address.Group j) (spoken (address.Group j) (SetBaudRate x)) ns (unled o.before ns o.inv j f)

pub unanswered : promised.Unanswered
unanswered w comes up g d v p o = go o (holds comes up)
  where
    go : {l : Line} → line.OnItsWay (sends (address.Group g) (SetBaudRate d)) v p l → LineHolds w.host w.nodes w.past l → (gets : ℕ → Bool)
        → said_after (record { at = v; bytes = p; gets = gets }) w.nodes ≡ silence
    go line.awaited s = silent w.host w.nodes w.past g d v p s
    go line.overdue s = silent s.waiting w.nodes s.earlier g d v p s.sent

pub by_call : promised.ByCall
unfolding is_ranged
by_call w comes up v q out room =
    let s = steady w.host w.nodes w.past w.line (holds comes up) in
    let n = s.nodes in
    let i = s.inv in
    delivers w.nodes v out room (omega (arith, i.some, i.long)) (omega (arith, i.few, i.long)) (λ j l. i.fit j (omega (arith, i.long))) q
