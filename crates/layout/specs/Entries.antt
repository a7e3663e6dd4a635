-- ENTRY: what the host's record has of a node, "KIND, divisor, address, group, leader, mask, and then by its kind".
use Rattle.std.specs.Prelude.{ℕ, ◌+◌, ◌-◌, ◌*◌, ◌/◌, ◌%◌, Bool, true, cond, ◌&&◌, List, map, eqb, ltb, leb, length, drop}
use Rattle.wire.specs.declared.kind.Kind.{Kind}
use Rattle.wire.specs.declared.kind.Kind.TheVariants.{Gate, Drive}
use Rattle.entry.specs.declared.Entry.{Entry}
use Rattle.entry.specs.declared.Known.{Known}
use Rattle.entry.specs.declared.drive.DriveKnown.{DriveKnown}
use Rattle.entry.specs.declared.drive.MotionKnown.{MotionKnown}
use Rattle.entry.specs.declared.gate.GateKnown.{GateKnown}
use Rattle.entry.specs.Entry.{gate_flags, drive_flags}
use Rattle.fields.specs.declared.answer.Answer.{Answer}
use Rattle.fields.specs.Answer.{answer_put, answer_put_word}
use Rattle.fields.specs.Field.{fields_byte, fields_word}
use Rattle.fields.specs.Kind.{is_kind, read_kind, answer_put_kind}
use Rattle.fields.specs.Record.{records_from, records_length, all_are, put_each}
use Rattle.layout.specs.Settings.{read_place, read_settings, put_place, put_settings}

-- how many bytes an entry has, with its KIND
abbrev pub entry_bytes : Kind → ℕ
entry_bytes Gate = 16
entry_bytes Drive = 50

unfoldable pub entry_length : List ℕ → ℕ
entry_length s = entry_bytes (read_kind (fields_byte s 0))

-- its KIND is one, all of it is there, the flag leader is 00 or 01; of known, its last bytes, "bit 7 is 0, else FF", and of a drive's "bit 15"
unfoldable pub is_entry : List ℕ → Bool
is_entry s = is_kind (fields_byte s 0) && leb (entry_length s) (length s) && ltb (fields_byte s 4) 2 && ltb (fields_byte s (entry_length s - 1)) 128

-- "ENTRY*31", and nothing behind them
unfoldable pub are_entries : List ℕ → Bool
are_entries s = all_are is_entry (records_from entry_length 31 s) && eqb (records_length entry_length 31 s) (length s)

-- of a gate's own "outputs, PWM pair, held set, timer mode; 1 = known"
unfoldable pub gate_known : ℕ → GateKnown
gate_known bits = record {
  outputs = eqb (bits % 2) 1;
  pwm = eqb (bits / 2 % 2) 1;
  held = eqb (bits / 4 % 2) 1;
  timer = eqb (bits / 8 % 2) 1;
}

-- "control, position, velocity, acceleration, PWM value"
unfoldable pub motion_known : ℕ → MotionKnown
motion_known bits = record {
  control = eqb (bits % 2) 1;
  position = eqb (bits / 2 % 2) 1;
  velocity = eqb (bits / 4 % 2) 1;
  acceleration = eqb (bits / 8 % 2) 1;
  pwm = eqb (bits / 16 % 2) 1;
}

-- "gains, stop byte, waiting control, position, velocity, acceleration, PWM value, then the same five in force"
unfoldable pub drive_known : ℕ → DriveKnown
drive_known bits = record {
  gains = eqb (bits % 2) 1;
  stop = eqb (bits / 2 % 2) 1;
  waiting = motion_known (bits / 4);
  in_force = motion_known (bits / 128);
}

-- place, mask, the kind's own, and the divisor; what the other kind has of its own starts as at power-up, and known
unfoldable pub read_known : Kind → ℕ → Known
read_known Gate bits = record { place = eqb (bits % 2) 1; mask = eqb (bits / 2 % 2) 1; divisor = eqb (bits / 64 % 2) 1; gate = gate_known (bits / 4); drive = drive_flags (λ d. true) }
read_known Drive bits = record { place = eqb (bits % 2) 1; mask = eqb (bits / 2 % 2) 1; divisor = eqb (bits / 16384 % 2) 1; gate = gate_flags (λ g. true); drive = drive_known (bits / 4) }

-- known, one byte of a gate's and two of a drive's
abbrev pub bits_in : Kind → List ℕ → ℕ
bits_in Gate s = fields_byte s 15
bits_in Drive s = fields_word s 48

-- KIND, divisor, place (3), the settings behind it (10, or 43), known
abbrev pub entry_by : Kind → List ℕ → Entry
entry_by k s = record { settings = read_settings k (fields_byte s 1) (read_place (drop 2 s)) (drop 5 s); known = read_known k (bits_in k s); kind = k }

unfoldable pub read_entry : List ℕ → Entry
read_entry s = entry_by (read_kind (fields_byte s 0)) s

-- all of a session
unfoldable pub read_entries : List ℕ → List Entry
read_entries s = map read_entry (records_from entry_length 31 s)

-- the bits of what is known: of a gate's own, of a motion's values, of a drive's own, of place and mask
unfoldable pub gate_bits : GateKnown → ℕ
gate_bits k = cond k.outputs 1 0 + cond k.pwm 2 0 + cond k.held 4 0 + cond k.timer 8 0

unfoldable pub motion_bits : MotionKnown → ℕ
motion_bits k = cond k.control 1 0 + cond k.position 2 0 + cond k.velocity 4 0 + cond k.acceleration 8 0 + cond k.pwm 16 0

unfoldable pub drive_bits : DriveKnown → ℕ
drive_bits k = cond k.gains 1 0 + cond k.stop 2 0 + motion_bits k.waiting * 4 + motion_bits k.in_force * 128

unfoldable pub shared_bits : Known → ℕ
shared_bits k = cond k.place 1 0 + cond k.mask 2 0

-- known more in an answer; the divisor is bit 6 of a gate's, and bit 14 of a drive's
unfoldable pub put_known : Answer → Kind → Known → Answer
put_known a Gate k = answer_put a (shared_bits k + gate_bits k.gate * 4 + cond k.divisor 64 0)
put_known a Drive k = answer_put_word a (shared_bits k + drive_bits k.drive * 4 + cond k.divisor 64 0 * 256)

-- an entry
unfoldable pub put_entry : Answer → Entry → Answer
put_entry a e = put_known (put_settings (put_place (answer_put (answer_put_kind a e.kind) e.settings.divisor) e.settings.place) e.kind e.settings) e.kind e.known

-- "ENTRY*31"
unfoldable pub put_entries : Answer → List Entry → Answer
put_entries a es = put_each put_entry a es
