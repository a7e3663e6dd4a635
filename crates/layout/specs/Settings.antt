-- What NODE and ENTRY both have: divisor and place, and the settings behind them.
use Rattle.std.specs.Prelude.{ℕ, List, eqb, drop}
use Rattle.wire.specs.declared.kind.Kind.{Kind}
use Rattle.wire.specs.declared.kind.Kind.TheVariants.{Gate, Drive}
use Rattle.command.specs.declared.Gains.{Gains}
use Rattle.command.specs.declared.Held.{Held}
use Rattle.command.specs.declared.Motion.{Motion}
use Rattle.command.specs.declared.Place.{Place}
use Rattle.fields.specs.declared.answer.Answer.{Answer}
use Rattle.fields.specs.Answer.{answer_put, answer_put_flag, answer_put_word, answer_put_long}
use Rattle.fields.specs.Field.{fields_byte, fields_word, fields_long}
use Rattle.node.specs.declared.drive.DriveSettings.{DriveSettings}
use Rattle.node.specs.declared.gate.GateSettings.{GateSettings}
use Rattle.node.specs.declared.state.Settings.{Settings}
use Rattle.node.specs.Effect.{gate_power_up, drive_power_up}

-- "address, group, leader (00/01)"
unfoldable pub read_place : List ℕ → Place
read_place s = record { address = record { 0 = fields_byte s 0 }; group = record { 0 = fields_byte s 1 }; leader = eqb (fields_byte s 2) 1 }

-- "outputs (2), PWM 1, PWM 2"
unfoldable pub read_held : List ℕ → Held
read_held s = record { outputs = fields_word s 0; pwm = record { first = fields_byte s 2; second = fields_byte s 3 } }

-- "outputs (2), PWM 1, PWM 2, held outputs (2), held PWM 1, held PWM 2, timer mode"
unfoldable pub read_gate : List ℕ → GateSettings
read_gate s = record {
  outputs = (read_held s).outputs;
  held = read_held (drop 4 s);
  pwm = (read_held s).pwm;
  timer = fields_byte s 8;
}

-- "GAINS, 13 bytes: KP(2) KD(2) KI(2) IL(2) OL EL(2) SR DB"
unfoldable pub read_gains : List ℕ → Gains
read_gains s = record {
  kp = fields_word s 0;
  kd = fields_word s 2;
  ki = fields_word s 4;
  il = fields_word s 6;
  el = fields_word s 9;
  ol = fields_byte s 8;
  sr = fields_byte s 11;
  db = fields_byte s 12;
}

-- "MOTION, 14 bytes: control byte, position(4), velocity(4), acceleration(4), PWM value"
unfoldable pub read_motion : List ℕ → Motion
read_motion s = record {
  position = fields_long s 1;
  velocity = fields_long s 5;
  acceleration = fields_long s 9;
  control = fields_byte s 0;
  pwm = fields_byte s 13;
}

-- "GAINS, stop byte, MOTION waiting, MOTION in force"
unfoldable pub read_drive : List ℕ → DriveSettings
read_drive s = record {
  waiting = read_motion (drop 14 s);
  in_force = read_motion (drop 28 s);
  gains = read_gains s;
  stop = fields_byte s 13;
}

-- the mask and what the kind has of its own, with divisor and place, which stand before them; what the other kind has of its own starts as at power-up
unfoldable pub read_settings : Kind → ℕ → Place → List ℕ → Settings
read_settings Gate v p s = record { drive = drive_power_up; gate = read_gate (drop 1 s); place = p; mask = fields_byte s 0; divisor = v }
read_settings Drive v p s = record { drive = read_drive (drop 1 s); gate = gate_power_up; place = p; mask = fields_byte s 0; divisor = v }

-- the same, more in an answer
unfoldable pub put_place : Answer → Place → Answer
put_place a p = answer_put_flag (answer_put (answer_put a p.address.0) p.group.0) p.leader

unfoldable pub put_held : Answer → Held → Answer
put_held a h = answer_put (answer_put (answer_put_word a h.outputs) h.pwm.first) h.pwm.second

unfoldable pub put_gate : Answer → GateSettings → Answer
put_gate a g = answer_put (put_held (put_held a (record { outputs = g.outputs; pwm = g.pwm })) g.held) g.timer

unfoldable pub put_gains : Answer → Gains → Answer
put_gains a g =
    answer_put (answer_put (answer_put_word (answer_put (answer_put_word (answer_put_word (answer_put_word (answer_put_word a g.kp) g.kd) g.ki) g.il) g.ol) g.el) g.sr) g.db

unfoldable pub put_motion : Answer → Motion → Answer
put_motion a m = answer_put (answer_put_long (answer_put_long (answer_put_long (answer_put a m.control) m.position) m.velocity) m.acceleration) m.pwm

unfoldable pub put_drive : Answer → DriveSettings → Answer
put_drive a d = put_motion (put_motion (answer_put (put_gains a d.gains) d.stop) d.waiting) d.in_force

-- what the other kind has of its own isn't shown
unfoldable pub put_settings : Answer → Kind → Settings → Answer
put_settings a Gate s = put_gate (answer_put a s.mask) s.gate
put_settings a Drive s = put_drive (answer_put a s.mask) s.drive
