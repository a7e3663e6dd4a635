-- Serves private contracts: the flags after a command and the values by their flags, part by part, as the code has them.
use Rattle.std.specs.Prelude.{Bool, false, cond, ◌&&◌}
use Rattle.command.specs.declared.Motion.{Motion}
use Rattle.command.specs.declared.Command.{Command}
use Rattle.command.specs.declared.Role.{Role}
use Rattle.command.specs.declared.Role.TheVariants.{Plain, Places, Paces, Masks, Captures, Zeroes, Idles, Resets}
use Rattle.command.specs.Control.{loads_of}
use Rattle.node.specs.declared.gate.GateSettings.{GateSettings}
use Rattle.node.specs.declared.drive.DriveSettings.{DriveSettings}
use Rattle.node.specs.declared.state.Settings.{Settings}
use Rattle.node.specs.Setting.{mask, gate, drive, get_gate, get_motion, get_drive, get, make_gate, make_motion, make_drive, make}
use Rattle.node.specs.Effect.{effect, brings}
use Rattle.entry.specs.declared.gate.GateKnown.{GateKnown}
use Rattle.entry.specs.declared.drive.MotionKnown.{MotionKnown}
use Rattle.entry.specs.declared.drive.DriveKnown.{DriveKnown}
use Rattle.entry.specs.declared.Known.{Known}
use Rattle.entry.specs.Entry.{gate_flag, motion_flag, drive_flag, flag, gate_flags, motion_flags, drive_flags, new_flag}

-- all flags of a part alike
abbrev pub gate_all : Bool → GateKnown
gate_all b = gate_flags (λ g. b)

abbrev pub drive_all : Bool → DriveKnown
drive_all b = drive_flags (λ d. b)

-- flags with this one of the mask, or this part of a gate's, or of a drive's
abbrev pub known_mask : Bool → Known
known_mask b = record { place = false; mask = b; divisor = false; gate = gate_all false; drive = drive_all false }

abbrev pub known_gate : GateKnown → Known
known_gate g = record { place = false; mask = false; divisor = false; gate = g; drive = drive_all false }

abbrev pub known_drive : DriveKnown → Known
known_drive d = record { place = false; mask = false; divisor = false; gate = gate_all false; drive = d }

-- the flag of the place after a command, by its role
abbrev pub mark_place : Role → Bool → Bool → Bool
mark_place Plain sure k = k
mark_place (Places p) sure k = sure
mark_place (Paces d) sure k = k
mark_place (Masks m) sure k = k
mark_place Captures sure k = k
mark_place Zeroes sure k = k
mark_place Idles sure k = k
mark_place Resets sure k = sure

-- of the divisor
abbrev pub mark_divisor : Role → Bool → Bool → Bool
mark_divisor Plain sure k = k
mark_divisor (Places p) sure k = k
mark_divisor (Paces d) sure k = sure
mark_divisor (Masks m) sure k = k
mark_divisor Captures sure k = k
mark_divisor Zeroes sure k = k
mark_divisor Idles sure k = k
mark_divisor Resets sure k = sure

-- of the mask; a gate's own; a drive's own
abbrev pub mark_mask : Command → Bool → Bool → Bool
mark_mask c sure k = new_flag sure (effect c mask) (known_mask k)

abbrev pub gate_mark : Command → Bool → GateKnown → GateKnown
gate_mark c sure k = gate_flags (λ g. new_flag sure (effect c (gate g)) (known_gate k))

abbrev pub drive_mark : Command → Bool → DriveKnown → DriveKnown
drive_mark c sure k = drive_flags (λ d. new_flag sure (effect c (drive d)) (known_drive k))

-- of what a load brings, and of what a start puts in force
abbrev pub load_flags : Motion → Bool → MotionKnown → MotionKnown
load_flags m sure old = motion_flags (λ p. cond (brings m p) sure (motion_flag old p))

abbrev pub start_flags : Bool → MotionKnown → MotionKnown
start_flags sure w = motion_flags (λ p. sure && motion_flag w p)

-- of a drive after a load
abbrev pub drive_load : Motion → Bool → DriveKnown → DriveKnown
drive_load m sure k = record {
  gains = k.gains;
  stop = k.stop;
  waiting = load_flags m sure k.waiting;
  in_force = cond (loads_of m.control).starts (start_flags sure (load_flags m sure k.waiting)) k.in_force;
}

-- each value by its flag: the new one where it is known, else the old one
abbrev pub gate_blend : GateKnown → GateSettings → GateSettings → GateSettings
gate_blend k new old = make_gate (λ g. cond (gate_flag k g) (get_gate new g) (get_gate old g))

abbrev pub blend_motion : MotionKnown → Motion → Motion → Motion
blend_motion k new old = make_motion (λ m. cond (motion_flag k m) (get_motion new m) (get_motion old m))

abbrev pub drive_blend : DriveKnown → DriveSettings → DriveSettings → DriveSettings
drive_blend k new old = make_drive (λ d. cond (drive_flag k d) (get_drive new d) (get_drive old d))

abbrev pub blend_of : Known → Settings → Settings → Settings
blend_of k new old = make (λ s. cond (flag k s) (get new s) (get old s))
