-- The walk goes by lines and bytes alone; with no exchange open, and so after a report, silence has no effect.
use Prim.Native.Nat.{ℕ}
use mathlib.Core.Bool.{Bool, true, false, cond}
use mathlib.Core.List.{List, [], ◌∷◌, ◌++◌, map, map-append, append-nil, append_assoc}
use mathlib.Core.Path.{◌≡◌, refl, sym, ap, ◌∙◌}
use Rattle.wire.specs.declared.refusal.Refusal.TheVariants as refusal
use Rattle.status.specs.declared.Answer.{Answer}
use Rattle.status.specs.declared.Answer.TheVariants.{Silent}
use Rattle.session.specs.declared.Exchange.{Exchange}
use Rattle.session.specs.declared.Exchange.TheVariants.{Idle, Waiting}
use Rattle.session.specs.declared.Session.{Session}
use Rattle.session.specs.Session.{is_closed, refuse_of}
use Rattle.reports.specs.Report.{conclude_of, finish_by, finish_of, report_of}
use Rattle.reports.proofs.Concluding.{concluded_idle}
use Rattle.calls.specs.Calls.{Gives, session_after}
use Rattle.calls.specs.Finding.{by_source, find_of}
use Rattle.calls.specs.declared.Call.{Call}
use Rattle.calls.proofs.Finding.{found_again}
use Rattle.capture.specs.Steps.{Recorded, sent, got}
use Rattle.capture.specs.Traces.{Traced, commanded, replied, traced_of}
use Rattle.recording.specs.Recording.{quiet_of, follow_of}
use Rattle.std.specs.Prelude.{Ok, Option, Some}
use Rattle.recording.specs.declared.Ending.TheVariants.{Ended, Foreign}
use Rattle.recording.specs.declared.Replayed.{Replayed}
use Rattle.recording.proofs.Alike.{alike_follows}

-- ---- reports

-- with no exchange open a report has no effect
idle_by : (b : Bool) (s : Session) (a : Answer) (x : Exchange) → x ≡ Idle → (cond b (refuse_of s refusal.Idle) (finish_by x s a)).session ≡ s
idle_by true s a x e = refl
idle_by false s a x e = ap (λ (y : Exchange). (finish_by y s a).session) e

pub idle_finishes : (s : Session) (a : Answer) → s.exchange ≡ Idle → (finish_of s a).session ≡ s
unfolding finish_of
idle_finishes s a e = idle_by (is_closed s) s a s.exchange e

pub idle_quiet : (s : Session) → s.exchange ≡ Idle → quiet_of s ≡ s
unfolding quiet_of
idle_quiet s e = idle_finishes s Silent e

pub idle_reports : (s : Session) (bytes : List ℕ) → s.exchange ≡ Idle → (report_of s bytes).session ≡ s
unfolding report_of
idle_reports s bytes e = idle_finishes s _ e

-- after a report there is none: a second one has no effect
again_by : (b : Bool) (s : Session) (a : Answer) (x : Exchange) → is_closed s ≡ b → s.exchange ≡ x
    → (finish_of (cond b (refuse_of s refusal.Idle) (finish_by x s a)).session Silent).session ≡ (cond b (refuse_of s refusal.Idle) (finish_by x s a)).session
unfolding finish_of
again_by true s a x e f = rw e
again_by false s a Idle e f = idle_finishes s Silent f
again_by false s a (Waiting at to c) e f = idle_finishes (conclude_of s at to c a) Silent (concluded_idle s at to c a)

pub finished_quiet : (s : Session) (a : Answer) → quiet_of (finish_of s a).session ≡ (finish_of s a).session
unfolding quiet_of finish_of
finished_quiet s a = again_by (is_closed s) s a s.exchange refl refl

-- ---- packets

-- a packet as if it started at time 0
abbrev pub timeless : Traced → Recorded
timeless (commanded p) = sent (record { start = 0; bytes = p })
timeless (replied p) = got (record { start = 0; bytes = p })

pub timeless_follows : (s : Session) (ps : List Recorded) → follow_of s (map timeless (traced_of ps)) ≡ follow_of s ps
timeless_follows s [] = refl
timeless_follows s (sent p ∷ ps) =
    ap (λ (x : Replayed). by_source (find_of (quiet_of s) p.bytes).source x (record { ending = Ok Foreign; session = quiet_of s }))
    (timeless_follows (find_of (quiet_of s) p.bytes).session ps)
timeless_follows s (got p ∷ ps) = timeless_follows (report_of s p.bytes).session ps

-- these packets lead from a session to another, whatever follows
pub record Leads (s : Session) (xs : List Traced) (t : Session) : Type 0 where
  pub then : (ps : List Recorded) → follow_of s (map timeless xs ++ ps) ≡ follow_of t ps

pub leads_on : {s t u : Session} {xs ys : List Traced} → Leads s xs t → Leads t ys u → Leads s (xs ++ ys) u
leads_on {s} {t} {u} {xs} {ys} f g = record {
  then = λ ps.
      ap (follow_of s) (ap (λ (l : List Recorded). l ++ ps) (map-append timeless xs ys) ∙ append_assoc (map timeless xs) (map timeless ys) ps)
      ∙ f.then (map timeless ys ++ ps)
      ∙ g.then ps;
}

-- no packets lead nowhere
pub leads_nowhere : {s : Session} → Leads s [] s
leads_nowhere = record { then = λ ps. refl }

-- to the end
pub leads_end : {s t : Session} {xs : List Traced} → Leads s xs t → (ps : List Recorded) → traced_of ps ≡ xs → follow_of s ps ≡ record { ending = Ok Ended; session = quiet_of t }
leads_end {s} {t} {xs} f ps e =
    sym (timeless_follows s ps) ∙ ap (λ (l : List Traced). follow_of s (map timeless l)) e ∙ ap (follow_of s) (sym (append-nil (map timeless xs))) ∙ f.then []

-- a call's packet leads to the session after it, once a command that waited is silent
found_by_lem : (x : Option Call) (c : Call) (y z : Replayed) → x ≡ Some c → by_source x y z ≡ y
found_by_lem x c y z e = rw e

pub call_leads : (s h : Session) (c : Call) (p : List ℕ) (g : Gives h c p) → quiet_of s ≡ h → Leads s (commanded p ∷ []) (session_after g)
call_leads s h c p g e =
    let a = found_again h c p g in
    record { then = λ ps. rw e (found_by_lem (find_of h p).source a.call _ _ a.found ∙ alike_follows a.session ps) }
