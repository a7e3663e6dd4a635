-- Document 02, 3: "A whole walk gives the host's record at its end"; with request 7, of what was sent at power-up's divisor (AtUp).
use Rattle.std.specs.Prelude.{ℕ, ◌≤◌, true, List, ◌≡◌, Ok}
use Rattle.session.specs.declared.Exchange.TheVariants.{Idle}
use Rattle.capture.specs.Steps.{Recorded, outset, left_at}
use Rattle.capture.specs.Traces.{traced_of}
use Rattle.capture.specs.Laying.{Laid, Laying}
use Rattle.recording.specs.Recording.{recording_check, power_of, follow_of, replay_of}
use Rattle.recording.specs.declared.Ending.TheVariants.{Ended}
use Rattle.line.specs.World.{World, hosting, Comes}
use Rattle.line.specs.Demand3.{Kept}
use Rattle.recorded.specs.Trace.{trace, told, told_kinds, AtUp}

-- with no exchange open, the packets captured since the last power-up, whenever each started, lead a powered_up_lem session to the host's own
abbrev pub Walks : Type 0
Walks = (w : World) (c : Comes w) → AtUp c → w.host.exchange ≡ Idle → (ps : List Recorded) → traced_of ps ≡ trace c
    → follow_of (power_of (told c) (told_kinds c)) ps ≡ record { ending = Ok Ended; session = w.host }

-- and so does the call, on every recording of these packets that it doesn't refuse
abbrev pub Replays : Type 0
Replays = (w : World) (c : Comes w) → AtUp c → w.host.exchange ≡ Idle → (cs cts rs rts : List ℕ) → recording_check (told c) (told_kinds c) cs cts rs rts ≡ Ok tt
    → traced_of (left_at cs cts rs rts outset) ≡ trace c → replay_of (told c) (told_kinds c) cs cts rs rts ≡ record { ending = Ok Ended; session = w.host }

-- so after a power-up every recording with gaps as they are asked for is gone through to its end, and gives the host's own record
abbrev pub OwnRecord : Type 0
OwnRecord = (w : World) (c : Comes w) → AtUp c → w.host.exchange ≡ Idle → 1 ≤ told c → (cs cts rs rts : List ℕ) → Laid (trace c) cs cts rs rts
    → replay_of (told c) (told_kinds c) cs cts rs rts ≡ record { ending = Ok Ended; session = w.host }

-- by demand 3, then, what that record calls known is what the nodes hold, and it is in doubt exactly as the demand says
abbrev pub RecordKept : Type 0
RecordKept = (w : World) (c : Comes w) → AtUp c → w.up ≡ true → w.host.exchange ≡ Idle → 1 ≤ told c → (cs cts rs rts : List ℕ) → Laid (trace c) cs cts rs rts
    → Kept (hosting (replay_of (told c) (told_kinds c) cs cts rs rts).session w)

-- and of every course there is such a recording
abbrev pub Recordable : Type 0
Recordable = (w : World) (c : Comes w) → Laying (trace c)
