-- Document 01, "The node": "A command is one of these kinds, each with its own data"; and document 02, request 6: the LS-173AP's own ("source document 000 decides").
use Rattle.std.specs.Prelude.{ℕ, ◌+◌, ◌*◌, ◌/◌, ◌%◌, Bool, cond, List, ◌≡◌, ltb, eqb, length, get_or, Option, Some, None}
use Rattle.wire.specs.declared.address.Address.{Address}
use Rattle.wire.specs.declared.kind.Kind.{Kind}
use Rattle.wire.specs.declared.kind.Kind.TheVariants.{Gate, Drive}
use Rattle.buffer.specs.Wide.{word_of, long_of}
use Rattle.packet.specs.Packet.{read_of, data_part, whole}
use Rattle.command.specs.Control.{loads_of, is_stop_here}
use Rattle.command.specs.Ranges.{fits_of}
use Rattle.command.specs.declared.Place.{Place}
use Rattle.command.specs.declared.Gains.{Gains}
use Rattle.command.specs.declared.Motion.{Motion}
use Rattle.command.specs.declared.Stop.{Stop}
use Rattle.command.specs.declared.Command.{Command}
use Rattle.command.specs.declared.Command.TheVariants.{SetAddress, DefineStatus, ReadStatus, SetPwm, SynchOutput, SetOutputs, SetSynchOutput, SetTimerMode, SetBaudRate, SynchInput, Nop, HardReset, ResetPosition, LoadTrajectory, StartMotion, SetGain, StopMotor}
use Rattle.codec.specs.declared.reading.Readings.{Readings}

-- the number of the two data bytes from i on, and of the four
abbrev pub word_at : List ℕ → ℕ → ℕ
word_at d i = word_of (get_or d i 0) (get_or d (i + 1) 0)

abbrev pub long_at : List ℕ → ℕ → ℕ
long_at d i = long_of (get_or d i 0) (get_or d (i + 1) 0) (get_or d (i + 2) 0) (get_or d (i + 3) 0)

-- a value of four bytes from i on, or of one, if the command brings it; else 0
abbrev pub long_if : Bool → List ℕ → ℕ → ℕ
long_if brought d i = cond brought (long_at d i) 0

abbrev pub byte_if : Bool → List ℕ → ℕ → ℕ
byte_if brought d i = cond brought (get_or d i 0) 0

-- "The group is the second byte with bit 7 set; the node is leader exactly if bit 7 was clear"
abbrev pub place_of : ℕ → ℕ → Place
place_of a g = record { address = record { 0 = a }; group = record { 0 = g % 0x80 + 0x80 }; leader = ltb g 0x80 }

-- Load Trajectory: where a control byte's values stand, each behind those that it brings before it, and how many data bytes there are:
-- one, four for each of bits 0, 1 and 2, and one for bit 3
abbrev pub velocity_at : ℕ → ℕ
velocity_at c = 1 + c % 2 * 4

abbrev pub acceleration_at : ℕ → ℕ
acceleration_at c = velocity_at c + c / 2 % 2 * 4

abbrev pub pwm_at : ℕ → ℕ
pwm_at c = acceleration_at c + c / 4 % 2 * 4

abbrev pub load_count : ℕ → ℕ
load_count c = pwm_at c + c / 8 % 2

-- what it loads: the control byte, and the values whose bits are set
unfoldable pub motion_of : List ℕ → Motion
motion_of d = record {
  position = long_if (loads_of (get_or d 0 0)).position d 1;
  velocity = long_if (loads_of (get_or d 0 0)).velocity d (velocity_at (get_or d 0 0));
  acceleration = long_if (loads_of (get_or d 0 0)).acceleration d (acceleration_at (get_or d 0 0));
  control = get_or d 0 0;
  pwm = byte_if (loads_of (get_or d 0 0)).pwm d (pwm_at (get_or d 0 0));
}

-- Set Gain: KP, KD, KI and IL, OL, a zero, EL, SR, DB
unfoldable pub gains_of : List ℕ → Gains
gains_of d = record {
  kp = word_at d 0;
  kd = word_at d 2;
  ki = word_at d 4;
  il = word_at d 6;
  el = word_at d 10;
  ol = get_or d 8 0;
  sr = get_or d 12 0;
  db = get_or d 13 0;
}

-- Stop Motor: five data bytes if bit 4 of the stop byte is set, else one
abbrev pub stop_count : ℕ → ℕ
stop_count b = 1 + b / 16 % 2 * 4

unfoldable pub stop_of : List ℕ → Stop
stop_of d = record { position = long_if (is_stop_here (get_or d 0 0)) d 1; byte = get_or d 0 0 }

-- r, if the data bytes, n of them, number m: "a count that isn't the one given" is another command
abbrev pub if_counted : ℕ → ℕ → Option Command → Option Command
if_counted n m r = cond (eqb n m) r None

-- "a first byte of 0x80 or more changes nothing", and "A value outside the manual's ranges .. is replied to as a Nop is and not acted on": it is another command
abbrev pub ranged : Command → Option Command
ranged c = cond (fits_of c) (Some c) None

-- the tenth data byte of Set Gain is 0
abbrev pub gained : List ℕ → Option Command
gained d = cond (eqb (get_or d 9 0) 0) (ranged (SetGain (gains_of d))) None

-- command k with data bytes d, n of them, row by row as the papers list them: the shared commands (document 02, request 7: "0xA is no longer an other"),
unfoldable pub shared_rows : ℕ → ℕ → List ℕ → Option Command
shared_rows k n d =
    cond (eqb k 0x1) (if_counted n 2 (ranged (SetAddress (place_of (get_or d 0 0) (get_or d 1 0)))))
    (cond (eqb k 0x2) (if_counted n 1 (Some (DefineStatus (get_or d 0 0))))
    (cond (eqb k 0x3) (if_counted n 1 (Some (ReadStatus (get_or d 0 0))))
    (cond (eqb k 0xA) (if_counted n 1 (Some (SetBaudRate (get_or d 0 0))))
    (cond (eqb k 0xE) (if_counted n 0 (Some Nop))
    (cond (eqb k 0xF) (if_counted n 0 (Some HardReset))
    None)))))

-- the LS-773's own,
unfoldable pub gate_rows : ℕ → ℕ → List ℕ → Option Command
gate_rows k n d =
    cond (eqb k 0x4) (if_counted n 2 (Some (SetPwm (record { first = get_or d 0 0; second = get_or d 1 0 }))))
    (cond (eqb k 0x5) (if_counted n 0 (Some SynchOutput))
    (cond (eqb k 0x6) (if_counted n 2 (Some (SetOutputs (word_at d 0))))
    (cond (eqb k 0x7) (if_counted n 4 (Some (SetSynchOutput (record { outputs = word_at d 0; pwm = record { first = get_or d 2 0; second = get_or d 3 0 } }))))
    (cond (eqb k 0x8) (if_counted n 1 (Some (SetTimerMode (get_or d 0 0))))
    (cond (eqb k 0xC) (if_counted n 0 (Some SynchInput))
    None)))))

-- and the LS-173AP's own
unfoldable pub drive_rows : ℕ → ℕ → List ℕ → Option Command
drive_rows k n d =
    cond (eqb k 0x0) (if_counted n 0 (Some ResetPosition))
    (cond (eqb k 0x4) (if_counted n (load_count (get_or d 0 0)) (ranged (LoadTrajectory (motion_of d))))
    (cond (eqb k 0x5) (if_counted n 0 (Some StartMotion))
    (cond (eqb k 0x6) (if_counted n 14 (gained d))
    (cond (eqb k 0x7) (if_counted n (stop_count (get_or d 0 0)) (ranged (StopMotor (stop_of d))))
    None))))

abbrev pub own_rows : Kind → ℕ → ℕ → List ℕ → Option Command
own_rows Gate k n d = gate_rows k n d
own_rows Drive k n d = drive_rows k n d

-- what the first rows say, and where they say nothing what the second say
abbrev pub or_else : Option Command → Option Command → Option Command
or_else (Some c) r = Some c
or_else None r = r

-- what a packet's command and data bytes say to a kind of node, and to both
unfoldable pub codec_read : Kind → ℕ → List ℕ → Option Command
codec_read kind k d = or_else (shared_rows k (length d) d) (own_rows kind k (length d) d)

abbrev pub readings_of : ℕ → List ℕ → Readings
readings_of k d = record { gate = codec_read Gate k d; drive = codec_read Drive k d }

-- some bytes begin with a packet with a right sum, which ends at `end` and says command c to address a, for a kind of node
pub record ReadsAs (kind : Kind) (s : List ℕ) (a : Address) (c : Command) (end : ℕ) : Type 0 where
  pub command : ℕ
  pub whole : read_of s ≡ whole a command end
  pub known : codec_read kind command (data_part s) ≡ Some c
