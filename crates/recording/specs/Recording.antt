-- Document 02, 3: "A whole walk gives the host's record at its end".
use Rattle.std.specs.Prelude.{ℕ, List, [], ◌∷◌, Result, Ok, Err, Option, Some, None}
use Rattle.wire.specs.Numbers.{number_by}
use Rattle.wire.specs.declared.refusal.Refusal.{Refusal}
use Rattle.wire.specs.declared.kind.Kind.{Kind}
use Rattle.session.specs.declared.Session.{Session}
use Rattle.session.specs.Session.{End}
use Rattle.start.specs.Start.{fresh_of, start_power_up}
use Rattle.reports.specs.Report.{silence_of, report_of}
use Rattle.calls.specs.Finding.{by_source, find_of}
use Rattle.capture.specs.Checks.{check_of}
use Rattle.capture.specs.Steps.{Recorded, sent, got, outset, left_at}
use Rattle.recording.specs.declared.Ending.TheVariants.{Ended, Foreign}
use Rattle.recording.specs.declared.Replayed.{Replayed}

-- "6 for the node count", as power-up gives it
abbrev pub count_check : End → Result (Unit {0}) Refusal
count_check (Ok n) = Ok tt
count_check (Err why) = Err why

-- "then 15 .., then 16"
abbrev pub then_check : Result (Unit {0}) Refusal → Result (Unit {0}) Refusal → Result (Unit {0}) Refusal
then_check (Ok u) x = x
then_check (Err why) x = Err why

-- 6, then 15, then 16
unfoldable pub recording_check : ℕ → List Kind → List ℕ → List ℕ → List ℕ → List ℕ → Result (Unit {0}) Refusal
recording_check n ks cs cts rs rts = then_check (count_check (start_power_up fresh_of n ks).end) (check_of cs cts rs rts)

-- "the recording begins at power-up", with the kinds that are told then
unfoldable pub power_of : ℕ → List Kind → Session
power_of n ks = (start_power_up fresh_of n ks).session

-- "a command with no reply before the next, or the end, is silent"
unfoldable pub quiet_of : Session → Session
quiet_of s = (silence_of s).session

-- the host's session after packets: a command is the call that gives it, and "a command the host couldn't have sent ends the walk and says so";
-- a reply is reported as it came, and "a reply that no command waits for is shown without effect", since reporting then gives 8
abbrev pub follow_of : Session → List Recorded → Replayed
follow_of s [] = record { ending = Ok Ended; session = quiet_of s }
follow_of s (sent p ∷ ps) =
    by_source (find_of (quiet_of s) p.bytes).source
    (follow_of (find_of (quiet_of s) p.bytes).session ps)
    (record { ending = Ok Foreign; session = quiet_of s })
follow_of s (got p ∷ ps) = follow_of (report_of s p.bytes).session ps

-- by the checks before it
abbrev pub replay_by : Result (Unit {0}) Refusal → Replayed → Replayed
replay_by (Ok u) x = x
replay_by (Err why) x = record { ending = Err why; session = fresh_of }

-- "Walk them packet by packet"
unfoldable pub replay_of : ℕ → List Kind → List ℕ → List ℕ → List ℕ → List ℕ → Replayed
replay_of n ks cs cts rs rts = replay_by (recording_check n ks cs cts rs rts) (follow_of (power_of n ks) (left_at cs cts rs rts outset))

-- the number of how a walk ended: done, also where a foreign command ended it, or the refusal's
abbrev pub replayed_number : Replayed → ℕ
replayed_number r = number_by r.ending
