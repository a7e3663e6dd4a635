-- A walk step by step: each step but the last leaves fewer bytes, and all of them come to what the whole walk gives. For callers that go by `advance`, and for the loop of `follow`.
use Prim.Native.Nat.{ℕ, ◌<◌}
use mathlib.Core.Bool.{Bool, true, false, cond, true≢false}
use mathlib.Core.List.{List}
use mathlib.Core.Path.{◌≡◌, refl, sym, ap, subst, ◌∙◌}
use lib.ListN.{length}
use Rattle.wire.specs.Promise.{Promise}
use Rattle.wire.specs.declared.kind.Kind.{Kind}
use Rattle.session.specs.declared.Session.{Session}
use Rattle.session.specs.Session.{End}
use Rattle.reports.specs.Report.{report_of}
use Rattle.calls.specs.declared.Call.{Call}
use Rattle.calls.specs.Finding.{by_source, find_of}
use Rattle.capture.specs.Steps.{outset, left_at, packet_from, capture_step, bytes_left}
use Rattle.std.specs.Prelude.{Option, Some, None, Result, Ok, Err, ℕ}
use Rattle.wire.specs.declared.refusal.Refusal.{Refusal}
use Rattle.capture.specs.declared.Line.{Line}
use Rattle.capture.specs.declared.Line.TheVariants.{Command, Reply}
use Rattle.capture.specs.declared.Cursor.{Cursor}
use Rattle.capture.specs.declared.Stepped.{Stepped}
use Rattle.capture.proofs.Steps.{down_command, down_reply, shows_command, shows_reply, shows_none}
use Rattle.recording.specs.declared.Begun.{Begun}
use Rattle.recording.specs.declared.Stage.{Stage}
use Rattle.recording.specs.declared.Event.{Event}
use Rattle.recording.specs.declared.Event.TheVariants as event
use Rattle.recording.specs.declared.Moved.{Moved}
use Rattle.recording.specs.declared.Ending.{Ending}
use Rattle.recording.specs.declared.Ending.TheVariants as ending
use Rattle.recording.specs.declared.Replayed.{Replayed}
use Rattle.recording.specs.Recording.{recording_check, power_of, quiet_of, follow_of, replay_by, replay_of}
use Rattle.recording.specs.Stages.{command_by, reply_by, take_command, take_reply, take_end, advance_on, advance_by, advance_of, begun_by, begun_number, begin_of}
use Rattle.recording.proofs.Sound.{good_sound}

-- ---- where a walk goes on, fewer bytes are left

module _ (cts rts : List ℕ) (at : Cursor) where
  abbrev Down : Moved → Type 0
  Down m = m.stage.over ≡ false → bytes_left cts rts m.stage.at < bytes_left cts rts at

  command_down : (x : Option Call) (next : Cursor) (q t : Session) → bytes_left cts rts next < bytes_left cts rts at → Down (command_by x next q t)
  command_down (Some c) next q t d o = d
  command_down None next q t d o = absurd (true≢false o)

  reply_down : (x : End) (next : Cursor) (t : Session) → bytes_left cts rts next < bytes_left cts rts at → Down (reply_by x next t)
  reply_down (Ok n) next t d o = d
  reply_down (Err why) next t d o = d

  on_down : (cs rs : List ℕ) (s : Session) (l : Line) (next : Cursor) → Some (record { line = l; behind = next }) ≡ capture_step cts rts at → Down (advance_on cs cts rs rts at s l next)
  unfolding take_command take_reply
  on_down cs rs s Command next e =
      let p = (packet_from cs cts at.command).bytes in
      command_down (find_of (quiet_of s) p).source next (quiet_of s) (find_of (quiet_of s) p).session (down_command cts rts at _ next e refl)
  on_down cs rs s Reply next e =
      let p = (packet_from rs rts at.reply).bytes in
      reply_down (report_of s p).end next (report_of s p).session (down_reply cts rts at _ next e refl)

  step_down : (cs rs : List ℕ) (s : Session) (x : Option Stepped) → x ≡ capture_step cts rts at → Down (advance_by cs cts rs rts at s x)
  unfolding take_end
  step_down cs rs s (Some y) e = on_down cs rs s y.line y.behind e
  step_down cs rs s None e = λ o. absurd (true≢false o)

pub advance_less : (cs cts rs rts : List ℕ) (g : Stage) (m : Moved) → g.over ≡ false → m ≡ advance_of cs cts rs rts g → m.stage.over ≡ false
    → bytes_left cts rts m.stage.at < bytes_left cts rts g.at
unfolding advance_of
advance_less cs cts rs rts g m o e = subst (Down cts rts g.at) (sym e) (rw o (step_down cts rts g.at cs rs g.session (capture_step cts rts g.at) refl))

-- ---- the packets that are left give what those before the step give

-- a walk that goes on, and one that has ended
record Goes (cs cts rs rts : List ℕ) (s : Session) (at : Cursor) (g : Stage) : Type 0 where
  on : g.over ≡ false
  same : follow_of s (left_at cs cts rs rts at) ≡ follow_of g.session (left_at cs cts rs rts g.at)

record Ends (cs cts rs rts : List ℕ) (s : Session) (at : Cursor) (g : Stage) (x : Ending) : Type 0 where
  over : g.over ≡ true
  same : follow_of s (left_at cs cts rs rts at) ≡ record { ending = Ok x; session = g.session }

-- what a step has done, by what it says
abbrev Done : List ℕ → List ℕ → List ℕ → List ℕ → Session → Cursor → Stage → Event → Type 0
Done cs cts rs rts s at g (event.Sent k) = Goes cs cts rs rts s at g
Done cs cts rs rts s at g event.Answered = Goes cs cts rs rts s at g
Done cs cts rs rts s at g event.Unawaited = Goes cs cts rs rts s at g
Done cs cts rs rts s at g event.Foreign = Ends cs cts rs rts s at g ending.Foreign
Done cs cts rs rts s at g event.End = Ends cs cts rs rts s at g ending.Ended

abbrev DoneBy : List ℕ → List ℕ → List ℕ → List ℕ → Session → Cursor → Moved → Type 0
DoneBy cs cts rs rts s at m = Done cs cts rs rts s at m.stage m.event

module _ (cs cts rs rts : List ℕ) (s : Session) (at : Cursor) (h : length cts ≡ length cs) (k : length rts ≡ length rs) where
  by_source_lem : (x : Option Call) (next : Cursor) (q t : Session)
      → follow_of s (left_at cs cts rs rts at) ≡ by_source x (follow_of t (left_at cs cts rs rts next)) (record { ending = Ok ending.Foreign; session = q })
      → DoneBy cs cts rs rts s at (command_by x next q t)
  by_source_lem (Some c) next q t e = record { on = refl; same = e }
  by_source_lem None next q t e = record { over = refl; same = e }

  by_reply : (x : End) (next : Cursor) (t : Session) → follow_of s (left_at cs cts rs rts at) ≡ follow_of t (left_at cs cts rs rts next)
      → DoneBy cs cts rs rts s at (reply_by x next t)
  by_reply (Ok n) next t e = record { on = refl; same = e }
  by_reply (Err why) next t e = record { on = refl; same = e }

  by_line_lem : (l : Line) (next : Cursor) → Some (record { line = l; behind = next }) ≡ capture_step cts rts at → DoneBy cs cts rs rts s at (advance_on cs cts rs rts at s l next)
  unfolding take_command take_reply
  by_line_lem Command next e =
      by_source_lem (find_of (quiet_of s) (packet_from cs cts at.command).bytes).source next _ _
      (ap (follow_of s) (shows_command cs cts rs rts at _ h k next e refl))
  by_line_lem Reply next e =
      by_reply (report_of s (packet_from rs rts at.reply).bytes).end next _
      (ap (follow_of s) (shows_reply cs cts rs rts at _ h k next e refl))

  by_step : (x : Option Stepped) → x ≡ capture_step cts rts at → DoneBy cs cts rs rts s at (advance_by cs cts rs rts at s x)
  unfolding take_end
  by_step (Some y) e = by_line_lem y.line y.behind e
  by_step None e = record { over = refl; same = ap (follow_of s) (shows_none cs cts rs rts at None h k e refl) }

module _ (cs cts rs rts : List ℕ) (g : Stage) (m : Moved) (h : length cts ≡ length cs) (k : length rts ≡ length rs) (o : g.over ≡ false) (e : m ≡ advance_of cs cts rs rts g) where
  done : (x : Event) → m.event ≡ x → Done cs cts rs rts g.session g.at m.stage x
  unfolding advance_of
  done x f =
      let b : m ≡ advance_by cs cts rs rts g.at g.session (capture_step cts rts g.at) = e ∙ rw o in
      subst (Done cs cts rs rts g.session g.at m.stage) f (subst (DoneBy cs cts rs rts g.session g.at) (sym b) (by_step cs cts rs rts g.session g.at h k (capture_step cts rts g.at) refl))

-- ---- for a caller that goes on until the walk is over: it comes to the session of the whole walk

-- what the walk from a stage on comes to
abbrev comes_to : List ℕ → List ℕ → List ℕ → List ℕ → Stage → Session
comes_to cs cts rs rts g = cond g.over g.session (follow_of g.session (left_at cs cts rs rts g.at)).session

session_of : {x y : Replayed} → x ≡ y → x.session ≡ y.session
session_of e = ap (λ (r : Replayed). r.session) e

module _ (cs cts rs rts : List ℕ) (s : Session) (at : Cursor) (g : Stage) where
  goes_on : Goes cs cts rs rts s at g → comes_to cs cts rs rts g ≡ (follow_of s (left_at cs cts rs rts at)).session
  goes_on d = rw d.on (sym (session_of d.same))

  has_ended : (x : Ending) → Ends cs cts rs rts s at g x → comes_to cs cts rs rts g ≡ (follow_of s (left_at cs cts rs rts at)).session
  has_ended x d = rw d.over (sym (session_of d.same))

  by_event : (x : Event) → Done cs cts rs rts s at g x → comes_to cs cts rs rts g ≡ (follow_of s (left_at cs cts rs rts at)).session
  by_event (event.Sent c) d = goes_on d
  by_event event.Answered d = goes_on d
  by_event event.Unawaited d = goes_on d
  by_event event.Foreign d = has_ended ending.Foreign d
  by_event event.End d = has_ended ending.Ended d

-- the walk from a stage on comes to the session t; where it isn't over, times and bytes are as many
pub record Coming (cs cts rs rts : List ℕ) (t : Session) (g : Stage) : Type 0 where
  pub comes : comes_to cs cts rs rts g ≡ t
  pub command_number : g.over ≡ false → length cts ≡ length cs
  pub reply_number : g.over ≡ false → length rts ≡ length rs

-- a step from any stage: one that is over stays so
record Passes (cs cts rs rts : List ℕ) (g : Stage) (m : Moved) : Type 0 where
  same : comes_to cs cts rs rts m.stage ≡ comes_to cs cts rs rts g
  was : m.stage.over ≡ false → g.over ≡ false

by_over : (b : Bool) (cs cts rs rts : List ℕ) (at : Cursor) (s : Session) → (b ≡ false → length cts ≡ length cs) → (b ≡ false → length rts ≡ length rs)
    → Passes cs cts rs rts (record { at = at; over = b; session = s }) (advance_of cs cts rs rts (record { at = at; over = b; session = s }))
unfolding advance_of
by_over true cs cts rs rts at s h k = record { same = refl; was = λ f. f }
by_over false cs cts rs rts at s h k =
    let m = advance_by cs cts rs rts at s (capture_step cts rts at) in
    record { same = by_event cs cts rs rts s at m.stage m.event (by_step cs cts rs rts s at (h refl) (k refl) (capture_step cts rts at) refl); was = λ f. refl }

module _ (cs cts rs rts : List ℕ) (t : Session) (g : Stage) (m : Moved) (i : Coming cs cts rs rts t g) (e : m ≡ advance_of cs cts rs rts g) where
  passes : Passes cs cts rs rts g m
  passes = subst (Passes cs cts rs rts g) (sym e) (by_over g.over cs cts rs rts g.at g.session i.command_number i.reply_number)

  pub comes_less : m.stage.over ≡ false → bytes_left cts rts m.stage.at < bytes_left cts rts g.at
  comes_less f = advance_less cs cts rs rts g m (passes.was f) e f

  pub comes_on : m.stage.over ≡ false → Coming cs cts rs rts t m.stage
  comes_on f =
      record {
        comes = passes.same ∙ i.comes;
        command_number = λ a. i.command_number (passes.was f);
        reply_number = λ a. i.reply_number (passes.was f);
      }

  pub comes_end : m.stage.over ≡ true → m.stage.session ≡ t
  comes_end f =
      let a : comes_to cs cts rs rts m.stage ≡ m.stage.session = rw f in
      sym a ∙ passes.same ∙ i.comes

start_by_lem : (x : Result (Unit {0}) Refusal) (n : ℕ) (ks : List Kind) (cs cts rs rts : List ℕ) → recording_check n ks cs cts rs rts ≡ x
    → Coming cs cts rs rts (replay_by x (follow_of (power_of n ks) (left_at cs cts rs rts outset))).session (begun_by x (power_of n ks)).stage
start_by_lem (Ok u) n ks cs cts rs rts e =
    let d = good_sound n ks cs cts rs rts e in
    record { comes = refl; command_number = λ f. d.command_number; reply_number = λ f. d.reply_number }
start_by_lem (Err why) n ks cs cts rs rts e = record { comes = refl; command_number = λ f. absurd (true≢false f); reply_number = λ f. absurd (true≢false f) }

pub comes_start : (n : ℕ) (ks : List Kind) (cs cts rs rts : List ℕ) (b : Begun) → Promise begun_number b (begin_of n ks cs cts rs rts)
    → Coming cs cts rs rts (replay_of n ks cs cts rs rts).session b.stage
unfolding begin_of replay_of
comes_start n ks cs cts rs rts b p =
    subst (λ (y : Begun). Coming cs cts rs rts (replay_of n ks cs cts rs rts).session y.stage) (sym p.answer) (start_by_lem (recording_check n ks cs cts rs rts) n ks cs cts rs rts refl)

-- ---- the loop of `follow`, which says how the walk ended too

-- the walk from the first stage on is the walk from this one on
pub record Going (cs cts rs rts : List ℕ) (s : Session) (g : Stage) : Type 0 where
  pub on : g.over ≡ false
  pub same : follow_of s (left_at cs cts rs rts outset) ≡ follow_of g.session (left_at cs cts rs rts g.at)

pub going_start : (cs cts rs rts : List ℕ) (s : Session) → Going cs cts rs rts s (record { at = outset; over = false; session = s })
going_start cs cts rs rts s = record { on = refl; same = refl }

module _ (cs cts rs rts : List ℕ) (s : Session) (g : Stage) (m : Moved) (h : length cts ≡ length cs) (k : length rts ≡ length rs) (i : Going cs cts rs rts s g)
    (e : m ≡ advance_of cs cts rs rts g) where
  by_said : (x : Event) → m.event ≡ x → Done cs cts rs rts g.session g.at m.stage x
  by_said x f = done cs cts rs rts g m h k i.on e x f

  less : Goes cs cts rs rts g.session g.at m.stage → bytes_left cts rts m.stage.at < bytes_left cts rts g.at
  less d = advance_less cs cts rs rts g m i.on e d.on

  onward : Goes cs cts rs rts g.session g.at m.stage → Going cs cts rs rts s m.stage
  onward d = record { on = d.on; same = i.same ∙ d.same }

  pub less_sent : (c : Call) → m.event ≡ event.Sent c → bytes_left cts rts m.stage.at < bytes_left cts rts g.at
  less_sent c f = less (by_said (event.Sent c) f)

  pub less_answered : m.event ≡ event.Answered → bytes_left cts rts m.stage.at < bytes_left cts rts g.at
  less_answered f = less (by_said event.Answered f)

  pub less_unawaited : m.event ≡ event.Unawaited → bytes_left cts rts m.stage.at < bytes_left cts rts g.at
  less_unawaited f = less (by_said event.Unawaited f)

  pub going_sent : (c : Call) → m.event ≡ event.Sent c → Going cs cts rs rts s m.stage
  going_sent c f = onward (by_said (event.Sent c) f)

  pub going_answered : m.event ≡ event.Answered → Going cs cts rs rts s m.stage
  going_answered f = onward (by_said event.Answered f)

  pub going_unawaited : m.event ≡ event.Unawaited → Going cs cts rs rts s m.stage
  going_unawaited f = onward (by_said event.Unawaited f)

  pub ends_foreign : m.event ≡ event.Foreign → record { ending = Ok ending.Foreign; session = m.stage.session } ≡ follow_of s (left_at cs cts rs rts outset)
  ends_foreign f = sym (i.same ∙ (by_said event.Foreign f).same)

  pub ends_ended : m.event ≡ event.End → record { ending = Ok ending.Ended; session = m.stage.session } ≡ follow_of s (left_at cs cts rs rts outset)
  ends_ended f = sym (i.same ∙ (by_said event.End f).same)
