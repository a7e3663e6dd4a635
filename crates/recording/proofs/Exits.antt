-- A law for each exit of the functions without a loop.
use Prim.Native.Nat.{ℕ}
use mathlib.Core.Bool.{true, false}
use mathlib.Core.List.{List}
use mathlib.Core.Path.{◌≡◌, sym, ap, ◌∙◌}
use lib.ListN.{length}
use denote.Ref.{Bor}
use Rattle.wire.specs.Promise.{Promise, promised}
use Rattle.wire.specs.declared.kind.Kind.{Kind}
use Rattle.wire.specs.declared.refusal.Refusal.{Refusal}
use Rattle.session.specs.declared.Session.{Session}
use Rattle.session.specs.declared.Step.{Step}
use Rattle.session.specs.Session.{step_number}
use Rattle.start.specs.Start.{fresh_of, start_power_up}
use Rattle.reports.specs.Report.{silence_of, report_of}
use Rattle.calls.specs.declared.Call.{Call}
use Rattle.calls.specs.declared.Sought.{Sought}
use Rattle.calls.specs.Finding.{find_of}
use Rattle.wire.specs.Numbers.{number_by}
use Rattle.capture.specs.Checks.{check_of}
use Rattle.capture.specs.Steps.{capture_step}
use Rattle.capture.specs.declared.Cursor.{Cursor}
use Rattle.capture.specs.declared.Stepped.{Stepped}
use Rattle.std.specs.Prelude.{Option, Some, None, Result, Ok, Err, ℕ}
use Rattle.capture.specs.declared.Line.{Line}
use Rattle.capture.specs.declared.Line.TheVariants.{Command, Reply}
use Rattle.capture.proofs.Steps.{PacketAt, packet_command, packet_reply}
use Rattle.recording.specs.declared.Stage.{Stage}
use Rattle.recording.specs.declared.Event.TheVariants as event
use Rattle.recording.specs.declared.Moved.{Moved}
use Rattle.recording.specs.declared.Begun.{Begun}
use Rattle.recording.specs.declared.Replayed.{Replayed}
use Rattle.capture.specs.Steps.{outset, left_at}
use Rattle.recording.specs.Recording.{quiet_of, count_check, recording_check, power_of, follow_of, replay_of, replayed_number}
use Rattle.recording.proofs.Sound.{good_sound}
use Rattle.recording.specs.Stages.{move_to, take_command, take_reply, take_end, advance_by, advance_of, begin_at, begun_number, begin_of}

-- ---- the checks

pub powered : (n : ℕ) (ks : List Kind) (f : Session) (r : Step) → f ≡ fresh_of → Promise step_number r (start_power_up f n ks) → r.session ≡ power_of n ks
unfolding power_of
powered n ks f r e h = rw (h.answer, e)

module _ (n : ℕ) (ks : List Kind) (cs cts rs rts : List ℕ) (f : Session) (r : Step) (t : Result (Unit {0}) Refusal) (e : f ≡ fresh_of) (h : Promise step_number r (start_power_up f n ks)) (g : t ≡ count_check r.end) where
  pub checked_on : (x : Result (Unit {0}) Refusal) → t ≡ Ok tt → Promise number_by x (check_of cs cts rs rts) → Promise number_by x (recording_check n ks cs cts rs rts)
  unfolding recording_check
  checked_on x i j = promised (rw (← e, ← h.answer, ← g, i) j.answer)

  pub checked_off : (x : Result (Unit {0}) Refusal) (why : Refusal) → t ≡ Err why → x ≡ Err why → Promise number_by x (recording_check n ks cs cts rs rts)
  unfolding recording_check
  checked_off x why i j = promised (rw (← e, ← h.answer, ← g, i) j)

-- ---- one packet

pub quieted : (s : Session) (r : Step) → Promise step_number r (silence_of s) → r.session ≡ quiet_of s
unfolding quiet_of
quieted s r h = rw h.answer

module _ (s : Session) (p : List ℕ) (next : Cursor) (q : Session) (x : Sought) (m : Moved) (e : q ≡ quiet_of s) (h : x ≡ find_of q p) where
  pub took_call : (k : Call) → x.source ≡ Some k → m ≡ move_to (event.Sent k) next false x.session → m ≡ take_command s p next
  unfolding take_command
  took_call k f g = rw (← e, ← h, f) g

  pub took_none : x.source ≡ None → m ≡ move_to event.Foreign next true q → m ≡ take_command s p next
  unfolding take_command
  took_none f g = rw (← e, ← h, f) g

module _ (s : Session) (p : List ℕ) (next : Cursor) (r : Step) (m : Moved) (h : Promise step_number r (report_of s p)) where
  pub took_done : (n : Option ℕ) → r.end ≡ Ok n → m ≡ move_to event.Answered next false r.session → m ≡ take_reply s p next
  unfolding take_reply
  took_done n f g = rw (← h.answer, f) g

  pub took_refused : (why : Refusal) → r.end ≡ Err why → m ≡ move_to event.Unawaited next false r.session → m ≡ take_reply s p next
  unfolding take_reply
  took_refused why f g = rw (← h.answer, f) g

pub took_end : (s : Session) (at : Cursor) (q : Session) (m : Moved) → q ≡ quiet_of s → m ≡ move_to event.End at true q → m ≡ take_end s at
unfolding take_end
took_end s at q m e h = rw (← e) h

-- ---- advance

pub stays_over : (cs cts rs rts : List ℕ) (g : Stage) (m : Moved) → g.over ≡ true → m ≡ move_to event.End g.at true g.session → m ≡ advance_of cs cts rs rts g
unfolding advance_of
stays_over cs cts rs rts g m e h = rw e h

module _ (c r : Bor (List ℕ)) (cts rts : List ℕ) (g : Stage) (x : Bor (List ℕ)) (s : Option Stepped) (m : Moved) (o : g.over ≡ false) (p : PacketAt c cts r rts g.at x)
    (e : s ≡ capture_step cts rts g.at) where
  goes_by : m ≡ advance_by c.now cts r.now rts g.at g.session s → m ≡ advance_of c.now cts r.now rts g
  unfolding advance_of
  goes_by h = rw (o, ← e) h

  pub goes_command : (y : Stepped) → s ≡ Some y → y.line ≡ Command → m ≡ take_command g.session x.now y.behind → m ≡ advance_of c.now cts r.now rts g
  goes_command y f l h =
      let q : s ≡ Some (record { line = Command; behind = y.behind }) = f ∙ ap (λ (k : Line). Some (record { line = k; behind = y.behind })) l in
      goes_by (rw q (h ∙ ap (λ (b : List ℕ). take_command g.session b y.behind) (packet_command c r cts rts g.at s x y.behind e q p).holds))

  pub goes_reply : (y : Stepped) → s ≡ Some y → y.line ≡ Reply → m ≡ take_reply g.session x.now y.behind → m ≡ advance_of c.now cts r.now rts g
  goes_reply y f l h =
      let q : s ≡ Some (record { line = Reply; behind = y.behind }) = f ∙ ap (λ (k : Line). Some (record { line = k; behind = y.behind })) l in
      goes_by (rw q (h ∙ ap (λ (b : List ℕ). take_reply g.session b y.behind) (packet_reply c r cts rts g.at s x y.behind e q p).holds))

pub goes_end : (cs cts rs rts : List ℕ) (g : Stage) (s : Option Stepped) (m : Moved) → g.over ≡ false → s ≡ capture_step cts rts g.at → s ≡ None → m ≡ take_end g.session g.at
    → m ≡ advance_of cs cts rs rts g
unfolding advance_of
goes_end cs cts rs rts g s m o e f h = rw (o, ← e, f) h

-- ---- begin and replay

module _ (n : ℕ) (ks : List Kind) (cs cts rs rts : List ℕ) (t : Result (Unit {0}) Refusal) (h : Promise number_by t (recording_check n ks cs cts rs rts)) where
  pub began : (s : Session) (b : Begun) → t ≡ Ok tt → s ≡ power_of n ks → b ≡ begin_at (Ok tt) false s → Promise begun_number b (begin_of n ks cs cts rs rts)
  unfolding begin_of
  began s b e f g = promised (rw (← h.answer, e, ← f) g)

  pub began_not : (why : Refusal) (s : Session) (b : Begun) → t ≡ Err why → s ≡ fresh_of → b ≡ begin_at (Err why) true s → Promise begun_number b (begin_of n ks cs cts rs rts)
  unfolding begin_of
  began_not why s b e f g = promised (rw (← h.answer, e, ← f) g)

  pub replayed : (s : Session) (r : Replayed) → t ≡ Ok tt → s ≡ power_of n ks → r ≡ follow_of s (left_at cs cts rs rts outset) → Promise replayed_number r (replay_of n ks cs cts rs rts)
  unfolding replay_of
  replayed s r e f g = promised (rw (← h.answer, e, ← f) g)

  pub replayed_not : (why : Refusal) (s : Session) → t ≡ Err why → s ≡ fresh_of
      → Promise replayed_number (record { ending = Err why; session = s }) (replay_of n ks cs cts rs rts)
  unfolding replay_of
  replayed_not why s e f = promised (rw (← h.answer, e, f))

-- ---- what the walk counts on, once the checks are passed

module _ (n : ℕ) (ks : List Kind) (cs cts rs rts : List ℕ) (t : Result (Unit {0}) Refusal) (h : Promise number_by t (recording_check n ks cs cts rs rts)) where
  pub even_command : t ≡ Ok tt → length cts ≡ length cs
  even_command e = (good_sound n ks cs cts rs rts (sym h.answer ∙ e)).command_number

  pub even_reply : t ≡ Ok tt → length rts ≡ length rs
  even_reply e = (good_sound n ks cs cts rs rts (sym h.answer ∙ e)).reply_number
