-- Document 01, "The host session": what the host's record of one node makes of a command and its answer, read off the table of effects, setting by setting.
use Rattle.std.specs.Prelude.{Bool, true, false, cond, ◌&&◌, ◌≡◌}
use Rattle.wire.specs.declared.kind.Kind.{Kind}
use Rattle.command.specs.declared.Command.{Command}
use Rattle.status.specs.declared.Answer.{Answer}
use Rattle.status.specs.declared.Answer.TheVariants.{Clear, Marked, Silent}
use Rattle.node.specs.Setting.{GateSetting, outputs, pwm, held, timer, MotionPart, control, position, velocity, acceleration, power, DriveSetting, gains, stop, waiting, in_force, Setting, place, mask, divisor, gate, drive, Value, get, make}
use Rattle.node.specs.Effect.{Effect, keeps, stores, copies, effect, writes, settings_power_up}
use Rattle.entry.specs.declared.gate.GateKnown.{GateKnown}
use Rattle.entry.specs.declared.drive.MotionKnown.{MotionKnown}
use Rattle.entry.specs.declared.drive.DriveKnown.{DriveKnown}
use Rattle.entry.specs.declared.Known.{Known}
use Rattle.entry.specs.declared.Entry.{Entry}
use Rattle.entry.specs.declared.Reach.{Reach}
use Rattle.entry.specs.declared.Reach.TheVariants.{Misses, Hits, May}

-- one flag, in the groups that settings have
abbrev pub gate_flag : GateKnown → GateSetting → Bool
gate_flag k outputs = k.outputs
gate_flag k pwm = k.pwm
gate_flag k held = k.held
gate_flag k timer = k.timer

abbrev pub motion_flag : MotionKnown → MotionPart → Bool
motion_flag k control = k.control
motion_flag k position = k.position
motion_flag k velocity = k.velocity
motion_flag k acceleration = k.acceleration
motion_flag k power = k.pwm

abbrev pub drive_flag : DriveKnown → DriveSetting → Bool
drive_flag k gains = k.gains
drive_flag k stop = k.stop
drive_flag k (waiting m) = motion_flag k.waiting m
drive_flag k (in_force m) = motion_flag k.in_force m

abbrev pub flag : Known → Setting → Bool
flag k place = k.place
flag k mask = k.mask
flag k divisor = k.divisor
flag k (gate g) = gate_flag k.gate g
flag k (drive d) = drive_flag k.drive d

-- all of them, setting by setting
abbrev pub gate_flags : (GateSetting → Bool) → GateKnown
gate_flags f = record { outputs = f outputs; pwm = f pwm; held = f held; timer = f timer }

abbrev pub motion_flags : (MotionPart → Bool) → MotionKnown
motion_flags f = record { control = f control; position = f position; velocity = f velocity; acceleration = f acceleration; pwm = f power }

abbrev pub drive_flags : (DriveSetting → Bool) → DriveKnown
drive_flags f = record { gains = f gains; stop = f stop; waiting = motion_flags (λ m. f (waiting m)); in_force = motion_flags (λ m. f (in_force m)) }

abbrev pub flags : (Setting → Bool) → Known
flags f = record { place = f place; mask = f mask; divisor = f divisor; gate = gate_flags (λ g. f (gate g)); drive = drive_flags (λ d. f (drive d)) }

-- what the host calls known, and the value that it shows
abbrev pub knows : Entry → Setting → Bool
knows e s = flag e.known s

abbrev pub shows : Entry → (s : Setting) → Value s
shows e s = get e.settings s

-- "makes all settings known as power-up has them"; document 02, request 6: "Each node gets a kind, told to the host at power-up"
abbrev pub entry_power_up : Kind → Entry
entry_power_up k = record { settings = settings_power_up; known = flags (λ s. true); kind = k }

-- the flag of a setting after a command, confirmed or not: "A confirmed command makes what it writes known and new, .. except copies of a held set
-- in doubt: those go into doubt. Unconfirmed: all that it may write goes into doubt"; "Start Motion copies the waiting ones as Synch Output does"
abbrev pub new_flag : {s : Setting} → Bool → Effect s → Known → Bool
new_flag {s} sure keeps k = flag k s
new_flag sure (stores v) k = sure
new_flag sure (copies t f) k = sure && flag k t

abbrev pub mark_of : Command → Bool → Known → Known
mark_of c sure k = flags (λ s. new_flag sure (effect c s) k)

-- the value of a setting after a confirmed command; "A setting in doubt shows its last known value"
abbrev pub new_value : {s : Setting} → Effect s → Entry → Value s
new_value {s} keeps e = shows e s
new_value (stores v) e = v
new_value {s} (copies t f) e = cond (knows e t) (f (shows e t)) (shows e s)

abbrev pub confirm_of : Command → Entry → Entry
confirm_of c e = record { settings = make (λ s. new_value (effect c s) e); known = mark_of c true e.known; kind = e.kind }

-- unconfirmed: no value changes
abbrev pub doubt_of : Command → Entry → Entry
doubt_of c e = record { settings = e.settings; known = mark_of c false e.known; kind = e.kind }

-- "Good and clear confirms the command. Good and not clear: the record stays as before. All else counts as silence: unconfirmed";
-- document 02, request 4: of a group command it "confirms only the leader, if known; every other node that may be written goes into doubt"
abbrev pub note_of : Answer → Reach → Command → Entry → Entry
note_of Marked r c e = e
note_of Clear Misses c e = e
note_of Clear Hits c e = confirm_of c e
note_of Clear May c e = doubt_of c e
note_of Silent Misses c e = e
note_of Silent Hits c e = doubt_of c e
note_of Silent May c e = doubt_of c e

-- the same of one setting: its flag and its value, by what becomes of it
abbrev pub note_flag : Answer → Reach → {s : Setting} → Effect s → Entry → Bool
note_flag Marked r {s} f e = knows e s
note_flag Clear Misses {s} f e = knows e s
note_flag Clear Hits f e = new_flag true f e.known
note_flag Clear May f e = new_flag false f e.known
note_flag Silent Misses {s} f e = knows e s
note_flag Silent Hits f e = new_flag false f e.known
note_flag Silent May f e = new_flag false f e.known

abbrev pub note_value : Answer → Reach → {s : Setting} → Effect s → Entry → Value s
note_value Clear Hits f e = new_value f e
note_value Clear Misses {s} f e = shows e s
note_value Clear May {s} f e = shows e s
note_value Marked r {s} f e = shows e s
note_value Silent r {s} f e = shows e s

-- a command that writes no setting, as Nop, Read Status and Synch Input do
abbrev pub Quiet : Command → Type 0
Quiet c = (s : Setting) → writes (effect c s) ≡ false
