-- A recording made by the host over demand 3's line walks to the host's own record.
use Prim.Native.Nat.{ℕ, ◌≤◌}
use Rattle.wire.specs.declared.refusal.Refusal.{Refusal}
use Rattle.wire.specs.Numbers.{number_by}
use native.Mathlib.Omega.{arith}
use mathlib.Core.Bool.{false}
use mathlib.Core.List.{List, [], ◌∷◌, ◌++◌}
use mathlib.Core.Option.{Option, none, some}
use mathlib.Core.Path.{◌≡◌, refl, sym, ap, subst, ◌∙◌}
use lib.ListN.{length, take}
use Rattle.wire.specs.Promise.{Outcome}
use Rattle.wire.specs.declared.kind.Kind.{Kind}
use Rattle.node.specs.Effect.{divisor_up}
use Rattle.status.specs.Status.{judge_of}
use Rattle.status.specs.declared.Answer.TheVariants.{Silent}
use Rattle.session.specs.declared.Exchange.TheVariants.{Idle}
use Rattle.session.specs.Session.{End}
use Rattle.session.specs.declared.Session.{Session}
use Rattle.session.specs.declared.Step.{Step}
use Rattle.sending.proofs.Passing.{Free}
use Rattle.start.specs.Start.{fresh_of, start_power_up}
use Rattle.start.proofs.Starting.{powered_none, powered_good}
use Rattle.reports.specs.Report.{report_of}
use Rattle.calls.specs.Calls.{call_perform, TypedCall, sets_rate, session_after}
use Rattle.calls.specs.declared.Call.{Call}
use Rattle.calls.proofs.Finding.{Made}
use Rattle.calls.proofs.Standing.{call_went, call_not_done, sent_not_free}
use Rattle.capture.specs.Steps.{outset, left_at}
use Rattle.capture.specs.Traces.{Traced}
use Rattle.capture.specs.Checks.{check_of}
use Rattle.std.specs.Prelude.{Ok, Result, Err, Some, None, ℕ}
use Rattle.capture.proofs.Laying.{laid_packets, laid_good}
use Rattle.recording.specs.Recording.{recording_check, power_of, quiet_of, replay_of}
use Rattle.recording.specs.declared.Ending.TheVariants.{Ended}
use Rattle.recording.specs.declared.Replayed.{Replayed}
use Rattle.line.specs.Line.{Line, quiet, going, coming, lingering, Nothing, absent, empty, reported_of}
use Rattle.line.specs.World.{World, hosting, call_ended, call_made, Comes, start, power, unpowered, call, deliver, report, hurry, delay, stray, bench}
use Rattle.line.specs.Demand3.{Kept}
use Rattle.line.proofs.Demand3.{demand3}
use Rattle.line.proofs.Powering.{fresh_at, accepted_power}
use Rattle.line.proofs.Refusing.{refused_power, refused_call, refused_report}
use Rattle.recorded.specs.Trace.{call_trace, reply_trace, trace, told, told_kinds, sent_at_up, AtUp}
use Rattle.recorded.specs.Walks.{Walks, Replays, OwnRecord, RecordKept}
use Rattle.recorded.proofs.Following.{idle_finishes, idle_quiet, idle_reports, finished_quiet, Leads, leads_on, leads_nowhere, leads_end, call_leads}

-- the session after what came back, if any byte did
abbrev heard : Session → Option (List ℕ) → Session
heard s none = s
heard s (some []) = s
heard s (some (b ∷ bs)) = (report_of s (b ∷ bs)).session

heard_leads : (s : Session) (r : Option (List ℕ)) → Leads s (reply_trace r) (heard s r)
heard_leads s none = leads_nowhere
heard_leads s (some []) = leads_nowhere
heard_leads s (some (b ∷ bs)) = record { then = λ ps. refl }

-- with silence for the rest of it, that is the session after the report
heard_reported : (s : Session) (r : Option (List ℕ)) → quiet_of (heard s r) ≡ (reported_of s r).session
unfolding quiet_of report_of judge_of
heard_reported s none = refl
heard_reported s (some []) = refl
heard_reported s (some (b ∷ bs)) = finished_quiet s (judge_of (b ∷ bs))

-- how the session that the packets lead to stands to the host's, by what is on the line; while a packet or its reply is awaited, no call sends
abbrev Stands : Session → Session → Line → Type 0
Stands s h quiet = quiet_of s ≡ h
Stands s h (going what at p) = (s ≡ h) × (Free h → ⊥)
Stands s h (coming what at r) = (s ≡ heard h r) × (Free h → ⊥)
Stands s h (lingering what at p) = quiet_of s ≡ h

record Follows (n : ℕ) (ks : List Kind) (xs : List Traced) (h : Session) (l : Line) : Type 0 where
  session : Session
  leads : Leads (power_of n ks) xs session
  stands : Stands session h l

-- where a call sends, or no exchange is open, silence leads on to the host's session
free_stands : (s h : Session) (l : Line) → Stands s h l → Free h → quiet_of s ≡ h
free_stands s h quiet t f = t
free_stands s h (going what at p) t f = absurd (t.1 f)
free_stands s h (coming what at r) t f = absurd (t.1 f)
free_stands s h (lingering what at p) t f = t

idle_reported : (s : Session) (r : Option (List ℕ)) → s.exchange ≡ Idle → (reported_of s r).session ≡ s
idle_reported s none e = idle_finishes s Silent e
idle_reported s (some bytes) e = idle_reports s bytes e

idle_stands : (s h : Session) (l : Line) → Stands s h l → h.exchange ≡ Idle → quiet_of s ≡ h
idle_stands s h quiet t e = t
idle_stands s h (going what at p) t e = ap quiet_of t.0 ∙ idle_quiet h e
idle_stands s h (coming what at r) t e = ap quiet_of t.0 ∙ heard_reported h r ∙ idle_reported h r e
idle_stands s h (lingering what at p) t e = t

nothing_heard : {r : Option (List ℕ)} → Nothing r → (s : Session) → heard s r ≡ s
nothing_heard absent s = refl
nothing_heard empty s = refl

module _ {n : ℕ} {ks : List Kind} {xs : List Traced} (w : World) (f : Follows n ks xs w.host w.line) (k : Call) (typed : TypedCall k) (at : ℕ) (out : List ℕ) where
  call_follows : sent_at_up (call_perform k w.host at out).answer.end k at
      → Follows n ks (xs ++ call_trace (call_perform k w.host at out).answer.end (call_perform k w.host at out).left) (call_made k at out w).host (call_made k at out w).line
  call_follows u = go (call_perform k w.host at out).answer.end refl u
    where
      t : Session
      t = (call_perform k w.host at out).answer.session

      left : List ℕ
      left = (call_perform k w.host at out).left

      gives : (m : ℕ) → (call_perform k w.host at out).answer.end ≡ Ok (Some m) → at ≡ divisor_up → sets_rate k ≡ false → Made w.host k (take m left) t
      gives m e a z =
          let p : Outcome Step (List ℕ) = call_perform k w.host divisor_up out in
          let q : call_perform k w.host at out ≡ p = ap (λ (v : ℕ). call_perform k w.host v out) a in
          record {
            gives = record {
              typed = typed;
              unpaced = z;
              out = out;
              count = m;
              sent = sym (ap (λ (o : Outcome Step (List ℕ)). o.answer.end) q) ∙ e;
              bytes = sym (ap (λ (o : Outcome Step (List ℕ)). take m o.left) q);
            };
            session = ap (λ (o : Outcome Step (List ℕ)). o.answer.session) q;
          }

      go : (e : End) → (call_perform k w.host at out).answer.end ≡ e → sent_at_up e k at
          → Follows n ks (xs ++ call_trace e left) (call_ended e k at t left w).host (call_ended e k at t left w).line
      go (Ok (Some m)) e u = record {
        session = session_after (gives m e u.0 u.1).gives;
        leads = leads_on f.leads
            (call_leads f.session w.host k (take m left) (gives m e u.0 u.1).gives
            (free_stands f.session w.host w.line f.stands (call_went k w.host at out (ap number_by e)).free));
        stands = (sym (gives m e u.0 u.1).session, sent_not_free k w.host at out m e);
      }
      go (Ok None) e u = absurd (call_not_done k w.host at out e)
      go (Err why) e u = rw (refused_call k w.host at out why e) (record { session = f.session; leads = leads_on f.leads leads_nowhere; stands = f.stands })

-- "the recording begins at power-up", and before any there is none
never_powered : quiet_of (power_of 0 []) ≡ fresh_of
unfolding power_of
never_powered = ap (λ (t : Step). quiet_of t.session) (powered_none fresh_of []) ∙ idle_quiet fresh_of refl

powered_follows : (h : Session) (n : ℕ) (ks : List Kind) → (start_power_up h n ks).end ≡ Ok None → quiet_of (power_of n ks) ≡ (start_power_up h n ks).session
unfolding power_of
powered_follows h n ks e =
    let p = accepted_power h n ks e in
    ap (λ (t : Step). quiet_of t.session) (powered_good fresh_of n ks p.some p.few) ∙ idle_quiet (fresh_at n ks) refl ∙ sym p.session

follows : {w : World} (c : Comes w) → AtUp c → Follows (told c) (told_kinds c) (trace c) w.host w.line
follows (start ns) u = record { session = power_of 0 []; leads = leads_nowhere; stands = never_powered }
follows (power {w = w} c ds ks t e) u = record { session = power_of (length ds) ks; leads = leads_nowhere; stands = powered_follows w.host (length ds) ks e }
follows (unpowered {w = w} c n ks why e) u = rw (refused_power w.host n ks why e) (follows c u)
follows (call {w = w} c k typed at out) u = call_follows w (follows c u.0) k typed at out u.1
follows (deliver {w = w} c what at p e q r a b) u =
    let f = follows c u in
    let t = subst (Stands f.session w.host) e f.stands in
    record { session = heard f.session r; leads = leads_on f.leads (heard_leads f.session r); stands = (ap (λ (s : Session). heard s r) t.0, t.1) }
follows (report {w = w} c what at r e) u =
    let f = follows c u in
    let t = subst (Stands f.session w.host) e f.stands in
    record { session = f.session; leads = f.leads; stands = ap quiet_of t.0 ∙ heard_reported w.host r }
follows (hurry {w = w} c what at p e r n) u =
    let f = follows c u in
    let t = subst (Stands f.session w.host) e f.stands in
    record { session = f.session; leads = f.leads; stands = ap quiet_of (t.0 ∙ sym (nothing_heard n w.host)) ∙ heard_reported w.host r }
follows (delay {w = w} c what at p e q a) u =
    let f = follows c u in
    record { session = f.session; leads = f.leads; stands = subst (Stands f.session w.host) e f.stands }
follows (stray {w = w} c r why e) u = rw (refused_report w.host r why e) (follows c u)
follows (bench c i b p) u = follows c u

pub walks : Walks
walks w c u e ps same =
    let f = follows c u in
    leads_end f.leads ps same ∙ ap (λ (s : Session). record { ending = Ok Ended; session = s }) (idle_stands f.session w.host w.line f.stands e)

pub replays : Replays
unfolding replay_of
replays w c u e cs cts rs rts good same = rw good (walks w c u e (left_at cs cts rs rts outset) same)

-- no power-up with more than 31 nodes is accepted
told_few : {w : World} (c : Comes w) → told c ≤ 31
told_few (start ns) = omega arith
told_few (power {w = w} c ds ks t e) = (accepted_power w.host (length ds) ks e).few
told_few (unpowered c n ks why e) = told_few c
told_few (call c k typed at out) = told_few c
told_few (deliver c what at p e q r a b) = told_few c
told_few (report c what at r e) = told_few c
told_few (hurry c what at p e r n) = told_few c
told_few (delay c what at p e q a) = told_few c
told_few (stray c r why e) = told_few c
told_few (bench c i b p) = told_few c

good_check : (n : ℕ) (ks : List Kind) (cs cts rs rts : List ℕ) → 1 ≤ n → n ≤ 31 → check_of cs cts rs rts ≡ Ok tt → recording_check n ks cs cts rs rts ≡ Ok tt
unfolding recording_check
good_check n ks cs cts rs rts p q e = rw (powered_good fresh_of n ks p q) e

pub own_record_lem : OwnRecord
own_record_lem w c u e least cs cts rs rts l =
    replays w c u e cs cts rs rts (good_check (told c) (told_kinds c) cs cts rs rts least (told_few c) (laid_good l)) (laid_packets l)

pub record_kept_lem : RecordKept
record_kept_lem w c u up e least cs cts rs rts l =
    subst (λ (s : Session). Kept (hosting s w)) (sym (ap (λ (r : Replayed). r.session) (own_record_lem w c u e least cs cts rs rts l))) (demand3 w c up e)
