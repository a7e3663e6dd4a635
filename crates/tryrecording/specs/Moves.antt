-- Serves the contracts of the functions that write the steps of a walk.
use Rattle.std.specs.Prelude.{ℕ, ◌+◌, ◌-◌, ◌*◌, ◌≤◌, false, List, [], ◌≡◌, length, Ok}
use Rattle.wire.specs.declared.kind.Kind.{Kind}
use Rattle.capture.specs.declared.Cursor.{Cursor}
use Rattle.capture.specs.Steps.{left_at, bytes_left}
use Rattle.recording.specs.Recording.{recording_check}
use Rattle.recording.specs.declared.Stage.{Stage}
use Rattle.recording.specs.declared.Event.{Event}
use Rattle.recording.specs.declared.Event.TheVariants.{Sent, Foreign, Answered, Unawaited}
use Rattle.recording.specs.declared.Event.TheVariants as event
use Rattle.tryrecording.specs.Trying.{step_bytes, steps_of}

-- the STEP of a packet by what it did, from the cursor before it to the one behind it
abbrev pub event_bytes : Event → Cursor → Cursor → List ℕ
event_bytes (Sent c) from to = step_bytes 0 from.command (to.command - from.command)
event_bytes Foreign from to = step_bytes 0 from.command (to.command - from.command)
event_bytes Answered from to = step_bytes 1 from.reply (to.reply - from.reply)
event_bytes Unawaited from to = step_bytes 1 from.reply (to.reply - from.reply)
event_bytes event.End from to = []

-- the steps from a stage on
unfoldable pub steps_from : List ℕ → List ℕ → List ℕ → List ℕ → Stage → List (List ℕ)
steps_from cs cts rs rts g = steps_of g.session g.at (left_at cs cts rs rts g.at)

-- a position in a buffer is small, and so will those be of the steps that are left at a cursor
abbrev pub Small : List ℕ → List ℕ → Cursor → ℕ → Type 0
Small cts rts c at = at + 5 * bytes_left cts rts c ≤ 0x8000

-- times and bytes are as many, the walk isn't over, and its steps have small positions from `at` on
pub record Walkable (cs cts rs rts : List ℕ) (g : Stage) (at : ℕ) : Type 0 where
  pub command : length cts ≡ length cs
  pub reply : length rts ≡ length rs
  pub on : g.over ≡ false
  pub small : Small cts rts g.at at

-- a recording that isn't refused, and has no more times than a line may
pub record IsGood (n : ℕ) (ks : List Kind) (cs cts rs rts : List ℕ) : Type 0 where
  pub good : recording_check n ks cs cts rs rts ≡ Ok tt
  pub command : length cts ≤ 0x400
  pub reply : length rts ≤ 0x400
