-- The line `50` of the program `trials`: what it is answered, by the bytes behind its first.
use Rattle.std.specs.Prelude.{ℕ, ◌+◌, ◌/◌, ◌%◌, cond, List, [], ◌∷◌, ◌++◌, length, take, Result, Ok, Err}
use Rattle.wire.specs.Numbers.{done, number_of}
use Rattle.wire.specs.declared.refusal.Refusal.{Refusal}
use Rattle.wire.specs.declared.kind.Kind.{Kind}
use Rattle.session.specs.declared.Session.{Session}
use Rattle.reports.specs.Report.{report_of}
use Rattle.calls.specs.Finding.{by_source, find_of}
use Rattle.capture.specs.declared.Cursor.{Cursor}
use Rattle.capture.specs.Packets.{Packet}
use Rattle.capture.specs.Steps.{Recorded, sent, got, outset, left_at}
use Rattle.recording.specs.declared.Ending.{Ending}
use Rattle.recording.specs.declared.Ending.TheVariants.{Ended, Foreign}
use Rattle.recording.specs.declared.Replayed.{Replayed}
use Rattle.recording.specs.Recording.{quiet_of, power_of, replay_of}
use Rattle.fields.specs.Field.{fields_byte}
use Rattle.fields.specs.Answer.{fields_nothing}
use Rattle.fields.specs.Kind.{read_kinds}
use Rattle.state.specs.State.{put_state}
use Rattle.tryrecording.specs.Form.{byte_part, times_in, kind_part, command_part, reply_part, is_recording}

-- "STEP, 5 bytes ..: `line start(2) length(2)`", least significant byte first
unfoldable pub step_bytes : ℕ → ℕ → ℕ → List ℕ
step_bytes line start long = line ∷ start % 256 ∷ start / 256 % 256 ∷ long % 256 ∷ long / 256 % 256 ∷ []

-- the cursor behind a packet of the command line, and of the reply line
abbrev pub past_command : Cursor → Packet → Cursor
past_command at p = record { command = at.command + length p.bytes; reply = at.reply }

abbrev pub past_reply : Cursor → Packet → Cursor
past_reply at p = record { command = at.command; reply = at.reply + length p.bytes }

-- "one for each packet handed back, in order .. line 00 command, 01 reply"; of a command that the host couldn't have sent: "that command is the last STEP"
unfoldable pub steps_of : Session → Cursor → List Recorded → List (List ℕ)
steps_of s at [] = []
steps_of s at (sent p ∷ ps) =
    step_bytes 0 at.command (length p.bytes)
    ∷ by_source (find_of (quiet_of s) p.bytes).source (steps_of (find_of (quiet_of s) p.bytes).session (past_command at p) ps) []
steps_of s at (got p ∷ ps) = step_bytes 1 at.reply (length p.bytes) ∷ steps_of (report_of s p.bytes).session (past_reply at p) ps

-- `STEP*count`
abbrev pub joined_steps : List (List ℕ) → List ℕ
joined_steps [] = []
joined_steps (x ∷ xs) = x ++ joined_steps xs

-- STATE, "of the walk's own session at its end"
unfoldable pub state_bytes : Session → List ℕ
state_bytes s = take (put_state fields_nothing s).length (put_state fields_nothing s).bytes

-- `00 end count(2)`
unfoldable pub head_bytes : ℕ → ℕ → List ℕ
head_bytes e count = done ∷ e ∷ count % 256 ∷ count / 256 % 256 ∷ []

-- "`00 end count(2) STEP*count STATE`"
unfoldable pub walk_bytes : ℕ → List (List ℕ) → Session → List ℕ
walk_bytes e steps s = head_bytes e (length steps) ++ joined_steps steps ++ state_bytes s

-- "end: 00 the recording ended; 01 a command that the host couldn't have sent ended it"
abbrev pub end_byte : Ending → ℕ
end_byte Ended = 0
end_byte Foreign = 1

-- "`NN` for a refusal"
abbrev pub replayed_bytes : Replayed → List (List ℕ) → Result Ending Refusal → List ℕ
replayed_bytes r steps (Ok e) = walk_bytes (end_byte e) steps r.session
replayed_bytes r steps (Err why) = number_of why ∷ []

-- the walk of a recording from power-up on
unfoldable pub replay_bytes : ℕ → List Kind → List ℕ → List ℕ → List ℕ → List ℕ → List ℕ
replay_bytes n ks cs cts rs rts =
    replayed_bytes (replay_of n ks cs cts rs rts) (steps_of (power_of n ks) outset (left_at cs cts rs rts outset)) (replay_of n ks cs cts rs rts).ending

-- of a line's node count and captures, with some kinds
unfoldable pub captured_bytes : List Kind → List ℕ → List ℕ
captured_bytes ks s = replay_bytes (fields_byte s 0) ks (byte_part (command_part s)) (times_in (command_part s)) (byte_part (reply_part s)) (times_in (reply_part s))

-- of a line of the form, with its own
abbrev pub recording_bytes : List ℕ → List ℕ
recording_bytes s = captured_bytes (read_kinds (kind_part s)) s

-- "`50 n KIND*n CAPTURE CAPTURE` walk a recording, the command line first"; what is not of the form answers `FF`
unfoldable pub tryrecording_replay : List ℕ → List ℕ
tryrecording_replay s = cond (is_recording s) (recording_bytes s) (0xFF ∷ [])
