-- The steps of a walk: what each adds, and that they end; a law for each exit of the code.
use Prim.Native.Nat.{ℕ, ◌*◌, ◌/◌, ◌≤◌, ◌<◌}
use Rattle.wire.specs.declared.refusal.Refusal.{Refusal}
use Rattle.calls.specs.declared.Call.{Call}
use mathlib.Core.Bool.{Bool, true, false, cond}
use mathlib.Core.List.{List, [], ◌∷◌, ◌++◌}
use mathlib.Core.Path.{◌≡◌, refl, subst}
use native.Mathlib.Omega.{arith}
use native.Mathlib.Nat.{add-sub_cancel_left}
use lib.ListN.{length, length-append}
use Rattle.session.specs.declared.Session.{Session}
use Rattle.session.specs.Session.{End}
use Rattle.reports.specs.Report.{report_of}
use Rattle.calls.specs.Finding.{by_source, find_of}
use Rattle.capture.specs.Packets.{Packet}
use Rattle.capture.specs.Steps.{Recorded, sent, got, left_at, packet_from, capture_step, bytes_left}
use Rattle.capture.specs.declared.Cursor.{Cursor}
use Rattle.capture.specs.declared.Stepped.{Stepped}
use Rattle.std.specs.Prelude.{Option, Some, None, Result, Ok, Err, ℕ}
use Rattle.capture.specs.declared.Line.{Line}
use Rattle.capture.specs.declared.Line.TheVariants.{Command, Reply}
use Rattle.capture.proofs.Steps.{shows_command, shows_reply, shows_none, past_command_lem, past_reply_lem}
use Rattle.recording.specs.declared.Stage.{Stage}
use Rattle.recording.specs.declared.Event.{Event}
use Rattle.recording.specs.declared.Event.TheVariants.{Sent, Foreign, Answered, Unawaited}
use Rattle.recording.specs.declared.Event.TheVariants as event
use Rattle.recording.specs.declared.Moved.{Moved}
use Rattle.recording.specs.Recording.{quiet_of}
use Rattle.recording.proofs.Stepping.{advance_less}
use Rattle.recording.specs.Stages.{command_by, reply_by, take_command, take_reply, take_end, advance_on, advance_by, advance_of}
use Rattle.tryrecording.specs.Writing.{WroteEach}
use Rattle.tryrecording.specs.Trying.{step_bytes, past_command, past_reply, steps_of, joined_steps}
use Rattle.tryrecording.specs.Moves.{event_bytes, steps_from, Walkable, Small}
use Rattle.tryrecording.proofs.Writes.{Still, still_on, still_done}

-- ---- how many bytes

pub event_long : (e : Event) (from to : Cursor) → length (event_bytes e from to) ≤ 5
unfolding step_bytes
event_long (Sent c) from to = omega arith
event_long Foreign from to = omega arith
event_long Answered from to = omega arith
event_long Unawaited from to = omega arith
event_long event.End from to = omega arith

step_more : (x : List ℕ) (xs : List (List ℕ)) → length x ≡ 5 → length (joined_steps xs) ≡ 5 * length xs → length (joined_steps (x ∷ xs)) ≡ 5 * length (x ∷ xs)
step_more x xs e f = omega (arith, length-append x (joined_steps xs))

by_source_lem : (c : Option Call) (xs : List (List ℕ)) → length (joined_steps xs) ≡ 5 * length xs → length (joined_steps (by_source c xs [])) ≡ 5 * length (by_source c xs [])
by_source_lem (Some c) xs e = e
by_source_lem None xs e = refl

pub steps_long : (s : Session) (at : Cursor) (ps : List Recorded) → length (joined_steps (steps_of s at ps)) ≡ 5 * length (steps_of s at ps)
unfolding steps_of step_bytes
steps_long s at [] = refl
steps_long s at (sent p ∷ ps) =
    step_more (step_bytes 0 at.command (length p.bytes)) (by_source (find_of (quiet_of s) p.bytes).source (steps_of (find_of (quiet_of s) p.bytes).session (past_command at p) ps) []) refl
    (by_source_lem (find_of (quiet_of s) p.bytes).source (steps_of (find_of (quiet_of s) p.bytes).session (past_command at p) ps) (steps_long (find_of (quiet_of s) p.bytes).session (past_command at p) ps))
steps_long s at (got p ∷ ps) =
    step_more (step_bytes 1 at.reply (length p.bytes)) (steps_of (report_of s p.bytes).session (past_reply at p) ps) refl
    (steps_long (report_of s p.bytes).session (past_reply at p) ps)

-- ---- what a step adds

module _ (cs cts rs rts : List ℕ) where
  -- the packet that a step was, and those behind it
  abbrev behind : Moved → List ℕ
  behind m = cond m.stage.over [] (joined_steps (steps_from cs cts rs rts m.stage))

  abbrev shown : Cursor → Moved → List ℕ
  shown at m = event_bytes m.event at m.stage.at ++ behind m

  command_shown : (at : Cursor) (p : Packet) (b s : Session) (c : Option Call)
      → step_bytes 0 at.command (length p.bytes) ++ joined_steps (by_source c (steps_of s (past_command at p) (left_at cs cts rs rts (past_command at p))) [])
      ≡ shown at (command_by c (past_command at p) b s)
  unfolding steps_from
  command_shown at p b s (Some c) = rw (add-sub_cancel_left at.command (length p.bytes))
  command_shown at p b s None = rw (add-sub_cancel_left at.command (length p.bytes))

  reply_shown : (at : Cursor) (p : Packet) (s : Session) (e : End)
      → step_bytes 1 at.reply (length p.bytes) ++ joined_steps (steps_of s (past_reply at p) (left_at cs cts rs rts (past_reply at p)))
      ≡ shown at (reply_by e (past_reply at p) s)
  unfolding steps_from
  reply_shown at p s (Ok n) = rw (add-sub_cancel_left at.reply (length p.bytes))
  reply_shown at p s (Err why) = rw (add-sub_cancel_left at.reply (length p.bytes))

  module _ (h : length cts ≡ length cs) (k : length rts ≡ length rs) where
    by_line_lem : (at : Cursor) (s : Session) (l : Line) (next : Cursor) → capture_step cts rts at ≡ Some (record { line = l; behind = next })
        → joined_steps (steps_of s at (left_at cs cts rs rts at)) ≡ shown at (advance_on cs cts rs rts at s l next)
    unfolding steps_of take_command take_reply
    by_line_lem at s Command next e =
        let p : Packet = packet_from cs cts at.command in
        rw (shows_command cs cts rs rts at (capture_step cts rts at) h k next refl e, past_command_lem cs cts rs rts at (capture_step cts rts at) next h refl e)
        (command_shown at p (quiet_of s) (find_of (quiet_of s) p.bytes).session (find_of (quiet_of s) p.bytes).source)
    by_line_lem at s Reply next e =
        let p : Packet = packet_from rs rts at.reply in
        rw (shows_reply cs cts rs rts at (capture_step cts rts at) h k next refl e, past_reply_lem cs cts rs rts at (capture_step cts rts at) next k refl e)
        (reply_shown at p (report_of s p.bytes).session (report_of s p.bytes).end)

    by_step : (at : Cursor) (s : Session) (x : Option Stepped) → capture_step cts rts at ≡ x → joined_steps (steps_of s at (left_at cs cts rs rts at)) ≡ shown at (advance_by cs cts rs rts at s x)
    unfolding steps_of take_end
    by_step at s (Some y) e = by_line_lem at s y.line y.behind e
    by_step at s None e = rw (shows_none cs cts rs rts at (capture_step cts rts at) h k refl e)

    -- the steps that are left are the step's own, then those behind it
    pub steps_on : (g : Stage) (m : Moved) → g.over ≡ false → m ≡ advance_of cs cts rs rts g → joined_steps (steps_from cs cts rs rts g) ≡ shown g.at m
    unfolding steps_from advance_of
    steps_on g m o e = rw (e, o) (by_step g.at g.session (capture_step cts rts g.at) refl)

-- ---- the loop: the steps from a stage on are still to be written

module _ (cs cts rs rts : List ℕ) (begun g : Stage) (from : ℕ) (m : Moved) (h : Walkable cs cts rs rts begun from) (o : g.over ≡ false) (e : m ≡ advance_of cs cts rs rts g) where
  pub stage_down : m.stage.over ≡ false → bytes_left cts rts m.stage.at < bytes_left cts rts g.at
  stage_down f = advance_less cs cts rs rts g m o e f

  module _ (p q : ℕ) (out left : List ℕ) (w : WroteEach (event_bytes m.event g.at m.stage.at) p out q left) where
    pub stage_small : Small cts rts g.at p → m.stage.over ≡ false → Small cts rts m.stage.at q
    stage_small s f = omega (arith, s, stage_down f, w.behind, event_long m.event g.at m.stage.at)

    pub stage_last : Small cts rts g.at p → q ≤ 0x8005
    stage_last s = omega (arith, s, w.behind, event_long m.event g.at m.stage.at)

    module _ (d o₀ : List ℕ) (a : ℕ) (s : Still (joined_steps (steps_from cs cts rs rts g)) p out d a o₀) where
      still_behind : Still (behind cs cts rs rts m) q left d a o₀
      still_behind = still_on (rw (steps_on cs cts rs rts h.command h.reply g m o e) at s) w

      pub stage_on : m.stage.over ≡ false → Still (joined_steps (steps_from cs cts rs rts m.stage)) q left d a o₀
      stage_on f = subst (λ (t : Bool). Still (cond t [] (joined_steps (steps_from cs cts rs rts m.stage))) q left d a o₀) f still_behind

      pub stage_done : m.stage.over ≡ true → WroteEach d a o₀ q left
      stage_done f = still_done (subst (λ (t : Bool). Still (cond t [] (joined_steps (steps_from cs cts rs rts m.stage))) q left d a o₀) f still_behind)

-- the position is small enough for a step
pub small_at : (cts rts : List ℕ) (c : Cursor) (at : ℕ) → Small cts rts c at → at ≤ 0x8000
small_at cts rts c at s = omega arith

pub walk_small : (cs cts rs rts : List ℕ) (g : Stage) (at : ℕ) → Walkable cs cts rs rts g at → Small cts rts g.at at
walk_small cs cts rs rts g at h = h.small

-- ---- how many there are

pub steps_count : (cs cts rs rts : List ℕ) (g : Stage) (out left : List ℕ) (r : ℕ) → WroteEach (joined_steps (steps_from cs cts rs rts g)) 0 out r left
    → r / 5 ≡ length (steps_from cs cts rs rts g)
unfolding steps_from
steps_count cs cts rs rts g out left r w = omega (arith, w.behind, steps_long g.session g.at (left_at cs cts rs rts g.at))
