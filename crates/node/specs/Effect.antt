-- What each command does to each setting: one table, which the node, the host's record and demand 3 all read.
use Rattle.std.specs.Prelude.{ℕ, Bool, true, false, cond, ◌≡◌}
use Rattle.wire.specs.declared.kind.Kind.{Kind}
use Rattle.command.specs.declared.Place.{Place}
use Rattle.command.specs.declared.Gains.{Gains}
use Rattle.command.specs.declared.Motion.{Motion}
use Rattle.command.specs.declared.Command.{Command}
use Rattle.command.specs.declared.Command.TheVariants.{SetAddress, DefineStatus, ReadStatus, SetPwm, SynchOutput, SetOutputs, SetSynchOutput, SetTimerMode, SetBaudRate, SynchInput, Nop, HardReset, ResetPosition, LoadTrajectory, StartMotion, SetGain, StopMotor}
use Rattle.command.specs.Control.{loads_of}
use Rattle.node.specs.declared.gate.GateSettings.{GateSettings}
use Rattle.node.specs.declared.drive.DriveSettings.{DriveSettings}
use Rattle.node.specs.declared.state.Settings.{Settings}
use Rattle.node.specs.Setting.{GateSetting, outputs, pwm, held, timer, MotionPart, control, position, velocity, acceleration, power, DriveSetting, gains, stop, waiting, in_force, Setting, place, mask, divisor, gate, drive, owns, Value, get_motion, make_motion, get, make, get_make}

-- what becomes of setting s: it stays, it is stored anew, or it is copied from another
pub data Effect (s : Setting) : Type 0 where
  keeps : Effect s
  stores : Value s → Effect s
  copies : (t : Setting) → (Value t → Value s) → Effect s

-- "The power-up state belongs to the node kind: address 0x00, group 0xFF, no leader"
abbrev pub address_up : ℕ
address_up = 0x00

abbrev pub group_up : ℕ
group_up = 0xFF

abbrev pub place_power_up : Place
place_power_up = record { address = record { 0 = address_up }; group = record { 0 = group_up }; leader = false }

-- "all else 0"
abbrev pub gate_power_up : GateSettings
gate_power_up = record { outputs = 0; held = record { outputs = 0; pwm = record { first = 0; second = 0 } }; pwm = record { first = 0; second = 0 }; timer = 0 }

abbrev pub at_rest : Motion
at_rest = make_motion (λ m. 0)

-- the LS-173AP manual: the servo rate divisor is 1
abbrev pub gains_power_up : Gains
gains_power_up = record { kp = 0; kd = 0; ki = 0; il = 0; el = 0; ol = 0; sr = 1; db = 0 }

abbrev pub drive_power_up : DriveSettings
drive_power_up = record { waiting = at_rest; in_force = at_rest; gains = gains_power_up; stop = 0 }

-- "a setting that power-up makes 0x3F"
abbrev pub divisor_up : ℕ
divisor_up = 0x3F

abbrev pub settings_power_up : Settings
settings_power_up = record {
  drive = drive_power_up;
  gate = gate_power_up;
  place = place_power_up;
  mask = 0;
  divisor = divisor_up;
}

-- a row of the table, by the group of settings that it writes in: none; the place; the mask; the divisor; a gate's own; a drive's own
abbrev pub none : (s : Setting) → Effect s
none s = keeps

abbrev pub on_place : Effect place → (s : Setting) → Effect s
on_place e place = e
on_place e mask = keeps
on_place e divisor = keeps
on_place e (gate g) = keeps
on_place e (drive d) = keeps

abbrev pub on_mask : Effect mask → (s : Setting) → Effect s
on_mask e place = keeps
on_mask e mask = e
on_mask e divisor = keeps
on_mask e (gate g) = keeps
on_mask e (drive d) = keeps

abbrev pub on_divisor : Effect divisor → (s : Setting) → Effect s
on_divisor e place = keeps
on_divisor e mask = keeps
on_divisor e divisor = e
on_divisor e (gate g) = keeps
on_divisor e (drive d) = keeps

abbrev pub on_gate : ((g : GateSetting) → Effect (gate g)) → (s : Setting) → Effect s
on_gate r place = keeps
on_gate r mask = keeps
on_gate r divisor = keeps
on_gate r (gate g) = r g
on_gate r (drive d) = keeps

abbrev pub on_drive : ((d : DriveSetting) → Effect (drive d)) → (s : Setting) → Effect s
on_drive r place = keeps
on_drive r mask = keeps
on_drive r divisor = keeps
on_drive r (gate g) = keeps
on_drive r (drive d) = r d

-- a gate's own four, in their order
abbrev pub gate_row : Effect (gate outputs) → Effect (gate pwm) → Effect (gate held) → Effect (gate timer) → (g : GateSetting) → Effect (gate g)
gate_row a b c d outputs = a
gate_row a b c d pwm = b
gate_row a b c d held = c
gate_row a b c d timer = d

-- a drive's own: gains, stop byte, and the five values in waiting and in force
abbrev pub drive_row : Effect (drive gains) → Effect (drive stop) → ((m : MotionPart) → Effect (drive (waiting m))) → ((m : MotionPart) → Effect (drive (in_force m)))
    → (d : DriveSetting) → Effect (drive d)
drive_row a b c d gains = a
drive_row a b c d stop = b
drive_row a b c d (waiting m) = c m
drive_row a b c d (in_force m) = d m

-- a row that writes one or two of a gate's
abbrev pub on_outputs : Effect (gate outputs) → (s : Setting) → Effect s
on_outputs e = on_gate (gate_row e keeps keeps keeps)

abbrev pub on_pwm : Effect (gate pwm) → (s : Setting) → Effect s
on_pwm e = on_gate (gate_row keeps e keeps keeps)

abbrev pub on_held : Effect (gate held) → (s : Setting) → Effect s
on_held e = on_gate (gate_row keeps keeps e keeps)

abbrev pub on_timer : Effect (gate timer) → (s : Setting) → Effect s
on_timer e = on_gate (gate_row keeps keeps keeps e)

abbrev pub on_outputs_and_pwm : Effect (gate outputs) → Effect (gate pwm) → (s : Setting) → Effect s
on_outputs_and_pwm e f = on_gate (gate_row e f keeps keeps)

-- of a drive's
abbrev pub on_gains : Effect (drive gains) → (s : Setting) → Effect s
on_gains e = on_drive (drive_row e keeps (λ m. keeps) (λ m. keeps))

abbrev pub on_stop : Effect (drive stop) → (s : Setting) → Effect s
on_stop e = on_drive (drive_row keeps e (λ m. keeps) (λ m. keeps))

abbrev pub on_motion : ((m : MotionPart) → Effect (drive (waiting m))) → ((m : MotionPart) → Effect (drive (in_force m))) → (s : Setting) → Effect s
on_motion c d = on_drive (drive_row keeps keeps c d)

-- which of the five a load brings: always the control byte, the others by its bits
abbrev pub brings : Motion → MotionPart → Bool
brings x control = true
brings x position = (loads_of x.control).position
brings x velocity = (loads_of x.control).velocity
brings x acceleration = (loads_of x.control).acceleration
brings x power = (loads_of x.control).pwm

-- "A load waits for Start Motion"
abbrev pub loading : Motion → (m : MotionPart) → Effect (drive (waiting m))
loading x m = cond (brings x m) (stores (get_motion x m)) keeps

-- "Start Motion copies the waiting ones as Synch Output does"
abbrev pub starting : (m : MotionPart) → Effect (drive (in_force m))
starting m = copies (drive (waiting m)) (λ v. v)

-- "with the start bit, it is loaded, then started at once": what it brings, and what waits already
abbrev pub starting_now : Motion → (m : MotionPart) → Effect (drive (in_force m))
starting_now x m = cond (loads_of x.control).starts (cond (brings x m) (stores (get_motion x m)) (starting m)) keeps

-- "the other Set commands store their data, no more. Synch Output copies the held set to outputs and PWM pair"; "Stop Motor writes the stop byte only"
abbrev pub effect : Command → (s : Setting) → Effect s
effect (SetAddress p) = on_place (stores p)
effect (DefineStatus m) = on_mask (stores m)
effect (ReadStatus m) = none
effect (SetPwm w) = on_pwm (stores w)
effect SynchOutput = on_outputs_and_pwm (copies (gate held) (λ h. h.outputs)) (copies (gate held) (λ h. h.pwm))
effect (SetOutputs w) = on_outputs (stores w)
effect (SetSynchOutput h) = on_held (stores h)
effect (SetTimerMode m) = on_timer (stores m)
effect (SetBaudRate d) = on_divisor (stores d)
effect SynchInput = none
effect Nop = none
effect HardReset = λ s. stores (get settings_power_up s)
effect ResetPosition = none
effect (LoadTrajectory x) = on_motion (loading x) (starting_now x)
effect StartMotion = on_motion (λ m. keeps) starting
effect (SetGain g) = on_gains (stores g)
effect (StopMotor s) = on_stop (stores s.byte)

-- whether a setting is written
abbrev pub writes : {s : Setting} → Effect s → Bool
writes keeps = false
writes (stores v) = true
writes (copies t f) = true

-- the value that comes of it
abbrev pub applied : {s : Setting} → Effect s → Settings → Value s
applied {s} keeps x = get x s
applied (stores v) x = v
applied (copies t f) x = f (get x t)

-- the settings after a command
abbrev pub settings_after : Command → Settings → Settings
settings_after c x = make (λ s. applied (effect c s) x)

-- the table is what acting does, setting by setting
pub get_after : (c : Command) (x : Settings) (s : Setting) → get (settings_after c x) s ≡ applied (effect c s) x
get_after c x = get_make (λ s. applied (effect c s) x)

-- what a node of a kind makes of it: only its own settings change
abbrev pub own_after : Kind → Command → Settings → Settings
own_after k c x = make (λ s. cond (owns k s) (applied (effect c s) x) (get x s))

pub get_own : (k : Kind) (c : Command) (x : Settings) (s : Setting) → get (own_after k c x) s ≡ cond (owns k s) (applied (effect c s) x) (get x s)
get_own k c x = get_make (λ s. cond (owns k s) (applied (effect c s) x) (get x s))
