-- Document 02, 3: one step of a walk. What it is part of, the whole walk, is in Recording.
use Rattle.std.specs.Prelude.{ℕ, Bool, true, false, cond, List, Option, Some, None, Result, Ok, Err}
use Rattle.calls.specs.declared.Call.{Call}
use Rattle.wire.specs.declared.kind.Kind.{Kind}
use Rattle.session.specs.declared.Session.{Session}
use Rattle.session.specs.Session.{End}
use Rattle.start.specs.Start.{fresh_of}
use Rattle.reports.specs.Report.{report_of}
use Rattle.calls.specs.Finding.{find_of}
use Rattle.wire.specs.Numbers.{number_by}
use Rattle.wire.specs.declared.refusal.Refusal.{Refusal}
use Rattle.capture.specs.Steps.{outset, packet_from, capture_step}
use Rattle.capture.specs.declared.Cursor.{Cursor}
use Rattle.capture.specs.declared.Stepped.{Stepped}
use Rattle.capture.specs.declared.Line.{Line}
use Rattle.capture.specs.declared.Line.TheVariants.{Command, Reply}
use Rattle.recording.specs.Recording.{quiet_of, recording_check, power_of}
use Rattle.recording.specs.declared.Stage.{Stage}
use Rattle.recording.specs.declared.Event.{Event}
use Rattle.recording.specs.declared.Event.TheVariants.{Sent, Foreign, Answered, Unawaited}
use Rattle.recording.specs.declared.Event.TheVariants as event
use Rattle.recording.specs.declared.Moved.{Moved}
use Rattle.recording.specs.declared.Begun.{Begun}

-- what a step did, and the stage behind it
abbrev pub move_to : Event → Cursor → Bool → Session → Moved
move_to e at over s = record { event = e; stage = record { at = at; over = over; session = s } }

-- a command is the call that gives it; where there is none, it "ends the walk and says so"
abbrev pub command_by : Option Call → Cursor → Session → Session → Moved
command_by (Some c) next before after = move_to (Sent c) next false after
command_by None next before after = move_to Foreign next true before

-- after the silence of the one before it
unfoldable pub take_command : Session → List ℕ → Cursor → Moved
take_command s p next = command_by (find_of (quiet_of s) p).source next (quiet_of s) (find_of (quiet_of s) p).session

-- a reply closes the exchange, or "is shown without effect"
abbrev pub reply_by : End → Cursor → Session → Moved
reply_by (Ok n) next s = move_to Answered next false s
reply_by (Err why) next s = move_to Unawaited next false s

-- reported as it came
unfoldable pub take_reply : Session → List ℕ → Cursor → Moved
take_reply s p next = reply_by (report_of s p).end next (report_of s p).session

-- at the end a command that waits is silent
unfoldable pub take_end : Session → Cursor → Moved
take_end s at = move_to event.End at true (quiet_of s)

-- by the line whose packet is next
abbrev pub advance_on : List ℕ → List ℕ → List ℕ → List ℕ → Cursor → Session → Line → Cursor → Moved
advance_on cs cts rs rts at s Command next = take_command s (packet_from cs cts at.command).bytes next
advance_on cs cts rs rts at s Reply next = take_reply s (packet_from rs rts at.reply).bytes next

abbrev pub advance_by : List ℕ → List ℕ → List ℕ → List ℕ → Cursor → Session → Option Stepped → Moved
advance_by cs cts rs rts at s (Some x) = advance_on cs cts rs rts at s x.line x.behind
advance_by cs cts rs rts at s None = take_end s at

-- the step at a stage; a walk that is over stays as it is
unfoldable pub advance_of : List ℕ → List ℕ → List ℕ → List ℕ → Stage → Moved
advance_of cs cts rs rts g =
    cond g.over (move_to event.End g.at true g.session) (advance_by cs cts rs rts g.at g.session (capture_step cts rts g.at))

-- a stage before the first byte
abbrev pub begin_at : Result (Unit {0}) Refusal → Bool → Session → Begun
begin_at c over s = record { checked = c; stage = record { at = outset; over = over; session = s } }

-- the first stage; of a refused recording, one that is over, with a fresh session
abbrev pub begun_by : Result (Unit {0}) Refusal → Session → Begun
begun_by (Ok u) s = begin_at (Ok tt) false s
begun_by (Err why) s = begin_at (Err why) true fresh_of

-- the first stage of a recording, or its refusal
unfoldable pub begin_of : ℕ → List Kind → List ℕ → List ℕ → List ℕ → List ℕ → Begun
begin_of n ks cs cts rs rts = begun_by (recording_check n ks cs cts rs rts) (power_of n ks)

abbrev pub begun_number : Begun → ℕ
begun_number b = number_by b.checked
