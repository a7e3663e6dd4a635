-- What holds all along any course of events, from power-up to the next Hard Reset.
use Prim.Native.Nat.{ℕ}
use Rattle.wire.specs.declared.refusal.Refusal.{Refusal}
use Rattle.std.specs.Prelude.{Ok, Err, Some, None, ℕ}
use mathlib.Core.Bool.{Bool, true, false, cond, true≢false, false≢true}
use mathlib.Core.List.{List, ◌∷◌}
use mathlib.Core.Option.{Option, none}
use mathlib.Core.Path.{◌≡◌, refl, sym, ap, subst, ◌∙◌}
use native.Mathlib.Omega.{arith}
use lib.ListN.{length, take}
use Rattle.wire.specs.Address.{in_range}
use Rattle.wire.specs.declared.address.Address.{Address}
use Rattle.command.specs.declared.Command.{Command}
use Rattle.command.specs.declared.Command.TheVariants.{Nop}
use Rattle.command.specs.Ranges.{fits_of}
use Rattle.codec.specs.Build.{packet_for}
use Rattle.codec.specs.Build as build
use Rattle.status.specs.declared.Answer.{Answer}
use Rattle.status.specs.declared.Answer.TheVariants.{Clear, Marked, Silent}
use Rattle.node.specs.declared.state.Node.{Node}
use Rattle.session.specs.declared.Exchange.TheVariants.{Idle}
use Rattle.session.specs.declared.Session.{Session}
use Rattle.session.specs.Session.{node_at, End}
use Rattle.session.specs.declared.Step.{Step}
use Rattle.reports.specs.Report.{noted_of, is_telling, told_of, conclude_of, finish_of}
use Rattle.reports.proofs.Concluding.{marked_noted, silent_noted, untold_noted, told_noted}
use Rattle.survey.specs.Chain.{Said, silence, reply, collided}
use Rattle.survey.specs.Delivery.{frame_alone}
use Rattle.calls.specs.declared.Call.{Call}
use Rattle.calls.specs.Calls.{call_perform, TypedCall}
use Rattle.calls.proofs.Standing.{call_not_done}
use Rattle.line.specs.History.{Sending, gives, asks, sends, Sent, Counted, tells, count, counted}
use Rattle.line.specs.Call.{what_of, resets}
use Rattle.line.specs.Line.{Line, quiet, going, coming, lingering, Arrival, Arrives, Nothing, absent, Returns, quietly, mixed, taken_by, nodes_after, said_after, reported_of, answer_in}
use Rattle.line.specs.Line as line
use Rattle.line.specs.World.{World, hosting, call_ended, call_made, Comes, start, power, unpowered, call, deliver, report, hurry, delay, stray, bench}
use Rattle.line.proofs.Refusing.{refused_power, refused_call, refused_report}
use Rattle.line.proofs.Due.{Due, CallSends, call_sends}
use Rattle.line.proofs.Closing.{waiting_at, Concluded, settles, walk_on, due_waits, due_opens, reported_finished, reported_concludes, conclusion}
use Rattle.line.proofs.Exactly.{Exactly, noted, exactly_step}
use Rattle.line.proofs.Invariant.{Invariant, Exchanged}
use Rattle.line.proofs.Getting.{parted_none}
use Rattle.line.proofs.Peace.{none_collided}
use Rattle.line.proofs.Delivery.{nothing_silent, exchanged}
use Rattle.line.proofs.Suits.{suits, taken}
use Rattle.line.proofs.Exchange.{exchange_step}
use Rattle.line.proofs.Telling.{told_exactly, told_invariant, answered_at, Tells, due_tells, due_untold}
use Rattle.line.proofs.Benching.{Benched, set_benched, benched_exchange, benched_invariant}
use Rattle.line.proofs.Powering.{accepted_power, powered_invariant, powered_exactly}

-- no exchange is open
pub record Settled (h : Session) (ns : List Node) (past : List Sent) : Type 0 where
  pub free : h.exchange ≡ Idle
  pub inv : Invariant h ns
  pub exactly : Exactly h (counted past)

-- one is open: session and nodes were settled when it was
pub record Opened (h : Session) (ns : List Node) (past : List Sent) (what : Sending) (v : ℕ) : Type 0 where
  pub before : Session
  pub called : Address
  pub to : Address
  pub command : Command
  pub inv : Invariant before ns
  pub exactly : Exactly before (counted past)
  pub due : Due before what called to command
  pub range : in_range called ≡ true
  pub fits : fits_of command ≡ true
  pub typed : build.Typed command
  pub now : h ≡ waiting_at before v to command

-- its packet is on the way
pub record Going (h : Session) (ns : List Node) (past : List Sent) (what : Sending) (v : ℕ) (p : List ℕ) : Type 0 where
  pub opened : Opened h ns past what v
  pub packet : p ≡ packet_for opened.called opened.command

-- what came of it is on the way
pub record Coming (h : Session) (ns : List Node) (past : List Sent) (what : Sending) (v : ℕ) (r : Option (List ℕ)) : Type 0 where
  pub old : List Node
  pub opened : Opened h old past what v
  pub exchange : Exchanged v opened.called opened.command old ns (answer_in r)

-- it still is, although silence was reported on it
pub record Lingering (h : Session) (ns : List Node) (past : List Sent) (what : Sending) (v : ℕ) (p : List ℕ) : Type 0 where
  pub waiting : Session
  pub earlier : List Sent
  pub sent : Going waiting ns earlier what v p
  pub host : h ≡ (reported_of waiting none).session
  pub history : past ≡ record { what = what; at = v; answer = Silent } ∷ earlier

-- what holds of host, nodes and history, by what is on the line
abbrev pub LineHolds : Session → List Node → List Sent → Line → Type 0
LineHolds h ns past quiet = Settled h ns past
LineHolds h ns past (going what v p) = Going h ns past what v p
LineHolds h ns past (coming what v r) = Coming h ns past what v r
LineHolds h ns past (lingering what v p) = Lingering h ns past what v p

-- ---- a call that sends

not_idle : {h : Session} {ns : List Node} {past : List Sent} {what : Sending} {v : ℕ} → Opened h ns past what v → h.exchange ≡ Idle → ⊥
not_idle o e = true≢false (cc (ap (λ (s : Session). s.exchange) o.now, e))

call_goes : (h t : Session) (ns : List Node) (past : List Sent) (k : Call) (v : ℕ) (p : List ℕ) → Settled h ns past → CallSends h v k p t → Going t ns past (what_of k p) v p
call_goes h t ns past k v p s a = record {
  opened = record {
    before = h;
    called = a.called;
    to = a.to;
    command = a.command;
    inv = s.inv;
    exactly = s.exactly;
    due = a.due;
    range = a.goes.range;
    fits = a.goes.fits;
    typed = a.typed;
    now = a.goes.after ∙ due_opens a.due v;
  };
  packet = a.goes.packet;
}

-- ---- its packet arrives, and what comes of it is reported

arrives : (h : Session) (ns : List Node) (past : List Sent) (what : Sending) (v : ℕ) (p : List ℕ) → Going h ns past what v p
    → (q : Arrival) (r : Option (List ℕ)) → Arrives v p q → Returns (said_after q ns) r → Coming h (nodes_after q ns) past what v r
arrives h ns past what v p g q r a b =
    let o = g.opened in
    record {
      old = ns;
      opened = o;
      exchange = exchanged v o.called o.command ns o.range o.fits o.typed (due_waits o.due) (taken o.due) (λ i l. suits o.due ns o.inv v i (omega (arith, o.inv.long))) (none_collided o.before ns o.inv) (rw g.packet at a) b;
    }

-- the answer is noted
module _ (h : Session) (ns : List Node) (past : List Sent) (what : Sending) (v : ℕ) (r : Option (List ℕ)) (c : Coming h ns past what v r) where
  abbrev o : Opened h c.old past what v
  o = c.opened

  abbrev pending : Session
  pending = waiting_at o.before v o.to o.command

  abbrev after : Answer → Session
  after a = noted_of pending o.to o.command a

  concluded : (a : Answer) → Concluded o.before a o.to (settles what a o.command) (walk_on what a o.before.walk) (after a)
  concluded a = let i = o.inv in conclusion o.due v i.few i.walked i.full a

  -- session, nodes and history, but for what a Nop tells
  record Noted (t : Session) (counts : List Counted) : Type 0 where
    free : t.exchange ≡ Idle
    inv : Invariant t ns
    exactly : Exactly t counts

  noted_settles : (a : Answer) → Exchanged v o.called o.command c.old ns a → Noted (after a) (noted what a (counted past))
  noted_settles a x =
      let k = concluded a in
      record {
        free = k.idle;
        inv = exchange_step o.due o.fits (after a) c.old ns o.inv a x k;
        exactly = exactly_step o.due (after a) (counted past) o.exactly a k;
      }

  -- a good clear reply to a Nop to a node tells its divisor too
  told_settles : (x : Exchanged v o.called o.command c.old ns Clear) → Tells what o.called o.to o.command
      → Noted (told_of (after Clear) v o.to) (count what v Clear (counted past))
  told_settles x t =
      let n = noted_settles Clear x in
      let few = n.inv.few in
      let full = n.inv.full in
      let y : Exchanged v (node_at t.node) Nop c.old ns Clear =
      subst (λ (a : Address). Exchanged v a Nop c.old ns Clear) t.sent (subst (λ (m : Command). Exchanged v o.called m c.old ns Clear) t.nop x) in
      let told : Noted (told_of (after Clear) v (node_at t.node)) (tells t.node v ∷ noted what Clear (counted past)) = record {
        free = refl;
        inv = told_invariant (after Clear) v t.node few full ns n.inv
            (λ i l e. answered_at o.before c.old ns o.inv v t.node t.one y i (omega (arith, (concluded Clear).nodes)) e);
        exactly = told_exactly (after Clear) v t.node few full (noted what Clear (counted past)) n.exactly;
      } in
      subst (λ (a : Address). Noted (told_of (after Clear) v a) (count what v Clear (counted past))) (sym t.about)
      (subst (λ (l : List Counted). Noted (told_of (after Clear) v (node_at t.node)) l) (sym (t.counts v (noted what Clear (counted past)))) told)

  settled_by : (a : Answer) → Exchanged v o.called o.command c.old ns a → Noted (conclude_of pending v o.to o.command a) (count what v a (counted past))
  settled_by Marked x = rw (marked_noted pending v o.to o.command) (noted_settles Marked x)
  settled_by Silent x = rw (silent_noted pending v o.to o.command, unsaid what) (noted_settles Silent x)
    where
      unsaid : (s : Sending) → count s v Silent (counted past) ≡ noted s Silent (counted past)
      unsaid (gives k) = refl
      unsaid (asks k) = refl
      unsaid (sends to d) = refl
  settled_by Clear x = go (is_telling o.to o.command) refl
    where
      go : (b : Bool) → is_telling o.to o.command ≡ b → Noted (conclude_of pending v o.to o.command Clear) (count what v Clear (counted past))
      go true e = rw (told_noted pending v o.to o.command e) (told_settles x (due_tells o.due e))
      go false e = rw (untold_noted pending v o.to o.command e Clear, due_untold o.due e v (noted what Clear (counted past))) (noted_settles Clear x)

  reported_is : (reported_of h r).session ≡ conclude_of pending v o.to o.command (answer_in r)
  reported_is = let i = o.inv in ap (λ (s : Session). (reported_of s r).session) o.now ∙ reported_concludes o.due v i.few i.walked i.full i.begun r

  pub settles_again : Settled (reported_of h r).session ns (record { what = what; at = v; answer = answer_in r } ∷ past)
  settles_again =
      let n = settled_by (answer_in r) c.exchange in
      rw reported_is (record { free = n.free; inv = n.inv; exactly = n.exactly })

-- ---- silence is reported before the packet has come

-- whatever is said, nothing need come back
absent_of : (s : Said) → Returns s none
absent_of silence = quietly absent
absent_of (reply r) = line.Returns.lost absent
absent_of collided = mixed

-- it comes then, or never: the host, which is in doubt already, is right in either case
lingering_settles : {h : Session} {ns : List Node} {past : List Sent} {what : Sending} {v : ℕ} {p : List ℕ} → Lingering h ns past what v p
    → (q : Arrival) → Arrives v p q → Settled h (nodes_after q ns) past
lingering_settles {h} {ns} {past} {what} {v} {p} l q a =
    rw (l.host, l.history) (settles_again l.waiting (nodes_after q ns) l.earlier what v none
    (arrives l.waiting ns l.earlier what v p l.sent q none a (absent_of (said_after q ns))))

-- where it comes to nobody the nodes are as they were
never_comes : {h : Session} {ns : List Node} {past : List Sent} {what : Sending} {v : ℕ} {p : List ℕ} → Lingering h ns past what v p → Settled h ns past
never_comes {h} {ns} {past} {what} {v} {p} l =
    subst (λ (ms : List Node). Settled h ms past) (parted_none ns (taken_by v (frame_alone p) p ns)) (lingering_settles l (record { at = v; bytes = p; gets = λ i. false }) line.Arrives.whole)

pub when_idle : (h : Session) (ns : List Node) (past : List Sent) (l : Line) → LineHolds h ns past l → h.exchange ≡ Idle → Settled h ns past
when_idle h ns past quiet s e = s
when_idle h ns past (going what v p) s e = absurd (not_idle s.opened e)
when_idle h ns past (coming what v r) s e = absurd (not_idle s.opened e)
when_idle h ns past (lingering what v p) s e = never_comes s

hurries : (h : Session) (ns : List Node) (past : List Sent) (what : Sending) (v : ℕ) (p : List ℕ) → Going h ns past what v p → (r : Option (List ℕ)) → Nothing r
    → Lingering (reported_of h r).session ns (record { what = what; at = v; answer = answer_in r } ∷ past) what v p
hurries h ns past what v p g r n = record {
  waiting = h;
  earlier = past;
  sent = g;
  host = ap (λ (t : Step). t.session) (reported_finished h r ∙ ap (finish_of h) (nothing_silent n));
  history = ap (λ (a : Answer). record { what = what; at = v; answer = a } ∷ past) (nothing_silent n);
}

-- ---- the bench

bench_going : {h : Session} {ns ms : List Node} {past : List Sent} {what : Sending} {v : ℕ} {p : List ℕ} → Benched ns ms → Going h ns past what v p → Going h ms past what v p
bench_going {h} {ns} {ms} b s =
    let o = s.opened in
    record {
      opened = record {
        before = o.before;
        called = o.called;
        to = o.to;
        command = o.command;
        inv = benched_invariant o.before ns ms b o.inv;
        exactly = o.exactly;
        due = o.due;
        range = o.range;
        fits = o.fits;
        typed = o.typed;
        now = o.now;
      };
      packet = s.packet;
    }

bench_holds : (h : Session) (ns ms : List Node) (past : List Sent) (l : Line) → Benched ns ms → LineHolds h ns past l → LineHolds h ms past l
bench_holds h ns ms past quiet b s = record { free = s.free; inv = benched_invariant h ns ms b s.inv; exactly = s.exactly }
bench_holds h ns ms past (going what v p) b s = bench_going b s
bench_holds h ns ms past (lingering what v p) b s = record {
  waiting = s.waiting;
  earlier = s.earlier;
  sent = bench_going b s.sent;
  host = s.host;
  history = s.history;
}
bench_holds h ns ms past (coming what v r) b s = record { old = s.old; opened = s.opened; exchange = benched_exchange b s.exchange }

-- ---- all along

abbrev pub Upholds : World → Type 0
Upholds w = w.up ≡ true → LineHolds w.host w.nodes w.past w.line

not_up : (b u : Bool) → cond b false u ≡ true → (b ≡ false) × (u ≡ true)
not_up true u e = absurd (false≢true e)
not_up false u e = (refl, e)

call_holds : (w : World) → Upholds w → (k : Call) → TypedCall k → (v : ℕ) (out : List ℕ) → Upholds (call_made k v out w)
call_holds w holds k typed v out = go (call_perform k w.host v out).answer.end refl
  where
    t : Session
    t = (call_perform k w.host v out).answer.session

    stands : t ≡ w.host → Upholds (hosting t w)
    stands e up = rw e (holds up)

    go : (e : End) → (call_perform k w.host v out).answer.end ≡ e → Upholds (call_ended e k v t (call_perform k w.host v out).left w)
    go (Ok (Some n)) e up =
        let u = not_up (resets k) w.up up in
        let a = call_sends k typed u.0 w.host v out n e in
        let s = when_idle w.host w.nodes w.past w.line (holds u.1) a.free.idle in
        call_goes w.host t w.nodes w.past k v (take n (call_perform k w.host v out).left) s a
    go (Ok None) e up = absurd (call_not_done k w.host v out e)
    go (Err why) e up = stands (refused_call k w.host v out why e) up

pub holds : {w : World} → Comes w → Upholds w
holds (start ns) up = absurd (false≢true up)
holds (power {w = w} c ds ks t e) up =
    let p = accepted_power w.host (length ds) ks e in
    rw p.session (record { free = refl; inv = powered_invariant ds ks t p.some p.few; exactly = powered_exactly ds ks t p.some p.few })
holds (unpowered {w = w} c n ks why e) up = rw (refused_power w.host n ks why e) (holds c up)
holds (call {w = w} c k typed v out) up = call_holds w (λ u. holds c u) k typed v out up
holds (deliver {w = w} c what v p e q r a b) up =
    arrives w.host w.nodes w.past what v p (subst (λ (l : Line). LineHolds w.host w.nodes w.past l) e (holds c up)) q r a b
holds (report {w = w} c what v r e) up =
    settles_again w.host w.nodes w.past what v r (subst (λ (l : Line). LineHolds w.host w.nodes w.past l) e (holds c up))
holds (hurry {w = w} c what v p e r n) up =
    hurries w.host w.nodes w.past what v p (subst (λ (l : Line). LineHolds w.host w.nodes w.past l) e (holds c up)) r n
holds (delay {w = w} c what v p e q a) up = lingering_settles (subst (λ (l : Line). LineHolds w.host w.nodes w.past l) e (holds c up)) q a
holds (stray {w = w} c r why e) up = rw (refused_report w.host r why e) (holds c up)
holds (bench {w = w} c i b p) up = bench_holds w.host w.nodes _ w.past w.line (set_benched w.nodes i b p) (holds c up)

-- also in the middle of an exchange the nodes are such as some settled session has them
pub record Steady (n : ℕ) (ns : List Node) : Type 0 where
  pub session : Session
  pub nodes : session.n ≡ n
  pub inv : Invariant session ns

pub steady : (h : Session) (ns : List Node) (past : List Sent) (l : Line) → LineHolds h ns past l → Steady h.n ns
steady h ns past quiet s = record { session = h; nodes = refl; inv = s.inv }
steady h ns past (going what v p) s =
    let o = s.opened in
    record { session = o.before; nodes = sym (ap (λ (z : Session). z.n) o.now); inv = o.inv }
steady h ns past (coming what v r) s =
    let n = noted_settles h ns past what v r s (answer_in r) s.exchange in
    record { session = after h ns past what v r s (answer_in r); nodes = (concluded h ns past what v r s (answer_in r)).nodes ∙ sym (ap (λ (z : Session). z.n) s.opened.now); inv = n.inv }
steady h ns past (lingering what v p) s = record { session = h; nodes = refl; inv = (never_comes s).inv }
