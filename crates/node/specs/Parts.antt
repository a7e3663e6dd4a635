-- Serves private contracts: the table of effects, part by part, as the code has the settings.
use Rattle.std.specs.Prelude.{ℕ, cond}
use Rattle.wire.specs.declared.kind.Kind.TheVariants.{Drive}
use Rattle.command.specs.declared.Place.{Place}
use Rattle.command.specs.declared.Motion.{Motion}
use Rattle.command.specs.declared.Command.{Command}
use Rattle.command.specs.declared.Command.TheVariants.{SetAddress, DefineStatus, ReadStatus, SetPwm, SynchOutput, SetOutputs, SetSynchOutput, SetTimerMode, SetBaudRate, SynchInput, Nop, HardReset, ResetPosition, LoadTrajectory, StartMotion, SetGain, StopMotor}
use Rattle.command.specs.declared.Role.{Role}
use Rattle.command.specs.declared.Role.TheVariants.{Plain, Places, Paces, Masks, Captures, Zeroes, Idles, Resets}
use Rattle.command.specs.Role.{role_of}
use Rattle.command.specs.Control.{loads_of}
use Rattle.message.specs.declared.Message.{Message}
use Rattle.message.specs.declared.Message.TheVariants.{Intact, Other, Spoilt}
use Rattle.node.specs.declared.gate.GateSettings.{GateSettings}
use Rattle.node.specs.declared.drive.DriveSettings.{DriveSettings}
use Rattle.node.specs.declared.state.Settings.{Settings}
use Rattle.node.specs.Setting.{get_motion, make_motion}
use Rattle.node.specs.Effect.{settings_power_up, divisor_up, brings, settings_after}
use Rattle.node.specs.Node.{does_heed}

-- what is no command of ours is as a Nop
abbrev pub message_role : Message → Role
message_role (Intact c) = role_of c
message_role Other = Idles
message_role Spoilt = Idles

-- settings with this part of a gate's, or of a drive's
abbrev pub with_gate : GateSettings → Settings
with_gate g = record { drive = settings_power_up.drive; gate = g; place = settings_power_up.place; mask = 0; divisor = divisor_up }

abbrev pub with_drive : DriveSettings → Settings
with_drive d = record { drive = d; gate = settings_power_up.gate; place = settings_power_up.place; mask = 0; divisor = divisor_up }

-- a gate's after a command, and a drive's
abbrev pub gate_after : Command → GateSettings → GateSettings
gate_after c g = (settings_after c (with_gate g)).gate

abbrev pub drive_after : Command → DriveSettings → DriveSettings
drive_after c d = (settings_after c (with_drive d)).drive

-- after a packet: another command and a wrong sum change nothing
abbrev pub gate_take : Message → GateSettings → GateSettings
gate_take (Intact c) g = gate_after c g
gate_take Other g = g
gate_take Spoilt g = g

abbrev pub drive_take : Message → DriveSettings → DriveSettings
drive_take (Intact c) d = drive_after c d
drive_take Other d = d
drive_take Spoilt d = d

-- as a drive heeds it: what it doesn't heed is as a Nop too
abbrev pub heeded_role : Message → Role
heeded_role h = cond (does_heed Drive (message_role h)) (message_role h) Idles

-- a motion with what a load brings
abbrev pub load_of : Motion → Motion → Motion
load_of m old = make_motion (λ p. cond (brings m p) (get_motion m p) (get_motion old p))

-- a drive's settings after a load
abbrev pub loaded_of : Motion → DriveSettings → DriveSettings
loaded_of m s = record {
  waiting = load_of m s.waiting;
  in_force = cond (loads_of m.control).starts (load_of m s.waiting) s.in_force;
  gains = s.gains;
  stop = s.stop;
}

-- the place after a command, by its role
abbrev pub place_by : Role → Place → Place
place_by Plain p = p
place_by (Places q) p = q
place_by (Paces d) p = p
place_by (Masks m) p = p
place_by Captures p = p
place_by Zeroes p = p
place_by Idles p = p
place_by Resets p = settings_power_up.place

-- the divisor
abbrev pub divisor_by : Role → ℕ → ℕ
divisor_by Plain d = d
divisor_by (Places p) d = d
divisor_by (Paces e) d = e
divisor_by (Masks m) d = d
divisor_by Captures d = d
divisor_by Zeroes d = d
divisor_by Idles d = d
divisor_by Resets d = divisor_up

-- the mask after a command
abbrev pub mask_by : Command → ℕ → ℕ
mask_by (SetAddress p) m = m
mask_by (DefineStatus n) m = n
mask_by (ReadStatus n) m = m
mask_by (SetPwm w) m = m
mask_by SynchOutput m = m
mask_by (SetOutputs w) m = m
mask_by (SetSynchOutput h) m = m
mask_by (SetTimerMode t) m = m
mask_by (SetBaudRate d) m = m
mask_by SynchInput m = m
mask_by Nop m = m
mask_by HardReset m = 0
mask_by ResetPosition m = m
mask_by (LoadTrajectory x) m = m
mask_by StartMotion m = m
mask_by (SetGain g) m = m
mask_by (StopMotor s) m = m

abbrev pub mask_take : Message → ℕ → ℕ
mask_take (Intact c) m = mask_by c m
mask_take Other m = m
mask_take Spoilt m = m
