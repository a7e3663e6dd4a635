-- Document 01, "The node": "Six settings: place .., status mask, outputs .., PWM pair, held set .., timer mode"; document 02, request 6: a drive's are place, status mask,
-- "gains, stop byte and, each a setting by itself in waiting and in force, control byte, position, velocity, acceleration and PWM value"; request 7: "every node holds a
-- divisor, a setting". One index for all of them, in groups.
use Rattle.std.specs.Prelude.{ℕ, Bool, true, false, not, ◌≡◌, refl}
use Rattle.wire.specs.Kind.{is_gate}
use Rattle.wire.specs.declared.kind.Kind.{Kind}
use Rattle.command.specs.declared.Place.{Place}
use Rattle.command.specs.declared.Pwm.{Pwm}
use Rattle.command.specs.declared.Held.{Held}
use Rattle.command.specs.declared.Gains.{Gains}
use Rattle.command.specs.declared.Motion.{Motion}
use Rattle.node.specs.declared.gate.GateSettings.{GateSettings}
use Rattle.node.specs.declared.drive.DriveSettings.{DriveSettings}
use Rattle.node.specs.declared.state.Settings.{Settings}

-- a gate's own
pub data GateSetting : Type 0 where
  outputs pwm held timer : GateSetting

-- the parts of a motion; `power`: the PWM value
pub data MotionPart : Type 0 where
  control position velocity acceleration power : MotionPart

-- a drive's own
pub data DriveSetting : Type 0 where
  gains stop : DriveSetting
  waiting in_force : MotionPart → DriveSetting

-- every node's, and its kind's own
pub data Setting : Type 0 where
  place mask divisor : Setting
  gate : GateSetting → Setting
  drive : DriveSetting → Setting

-- an entry of the record has only its kind's settings, and so has a node
abbrev pub owns : Kind → Setting → Bool
owns k place = true
owns k mask = true
owns k divisor = true
owns k (gate g) = is_gate k
owns k (drive d) = not (is_gate k)

-- what a setting's value is
abbrev pub GateValue : GateSetting → Type 0
GateValue outputs = ℕ
GateValue pwm = Pwm
GateValue held = Held
GateValue timer = ℕ

abbrev pub DriveValue : DriveSetting → Type 0
DriveValue gains = Gains
DriveValue stop = ℕ
DriveValue (waiting m) = ℕ
DriveValue (in_force m) = ℕ

abbrev pub Value : Setting → Type 0
Value place = Place
Value mask = ℕ
Value divisor = ℕ
Value (gate g) = GateValue g
Value (drive d) = DriveValue d

-- one of them
abbrev pub get_gate : GateSettings → (g : GateSetting) → GateValue g
get_gate x outputs = x.outputs
get_gate x pwm = x.pwm
get_gate x held = x.held
get_gate x timer = x.timer

abbrev pub get_motion : Motion → MotionPart → ℕ
get_motion x control = x.control
get_motion x position = x.position
get_motion x velocity = x.velocity
get_motion x acceleration = x.acceleration
get_motion x power = x.pwm

abbrev pub get_drive : DriveSettings → (d : DriveSetting) → DriveValue d
get_drive x gains = x.gains
get_drive x stop = x.stop
get_drive x (waiting m) = get_motion x.waiting m
get_drive x (in_force m) = get_motion x.in_force m

abbrev pub get : Settings → (s : Setting) → Value s
get x place = x.place
get x mask = x.mask
get x divisor = x.divisor
get x (gate g) = get_gate x.gate g
get x (drive d) = get_drive x.drive d

-- all of them, setting by setting
abbrev pub make_gate : ((g : GateSetting) → GateValue g) → GateSettings
make_gate f = record { outputs = f outputs; held = f held; pwm = f pwm; timer = f timer }

abbrev pub make_motion : (MotionPart → ℕ) → Motion
make_motion f = record { position = f position; velocity = f velocity; acceleration = f acceleration; control = f control; pwm = f power }

abbrev pub make_drive : ((d : DriveSetting) → DriveValue d) → DriveSettings
make_drive f = record { waiting = make_motion (λ m. f (waiting m)); in_force = make_motion (λ m. f (in_force m)); gains = f gains; stop = f stop }

abbrev pub make : ((s : Setting) → Value s) → Settings
make f = record { drive = make_drive (λ d. f (drive d)); gate = make_gate (λ g. f (gate g)); place = f place; mask = f mask; divisor = f divisor }

-- all zero: what is read past the end of an array
abbrev pub nowhere : Place
nowhere = record { address = record { 0 = 0 }; group = record { 0 = 0 }; leader = false }

abbrev pub no_gains : Gains
no_gains = record { kp = 0; kd = 0; ki = 0; il = 0; el = 0; ol = 0; sr = 0; db = 0 }

abbrev pub zeroed : Settings
zeroed = record {
  drive = record { waiting = make_motion (λ m. 0); in_force = make_motion (λ m. 0); gains = no_gains; stop = 0 };
  gate = record { outputs = 0; held = record { outputs = 0; pwm = record { first = 0; second = 0 } }; pwm = record { first = 0; second = 0 }; timer = 0 };
  place = nowhere;
  mask = 0;
  divisor = 0;
}

gate_make : (f : (g : GateSetting) → GateValue g) (g : GateSetting) → get_gate (make_gate f) g ≡ f g
gate_make f outputs = refl
gate_make f pwm = refl
gate_make f held = refl
gate_make f timer = refl

motion_make : (f : MotionPart → ℕ) (m : MotionPart) → get_motion (make_motion f) m ≡ f m
motion_make f control = refl
motion_make f position = refl
motion_make f velocity = refl
motion_make f acceleration = refl
motion_make f power = refl

drive_make : (f : (d : DriveSetting) → DriveValue d) (d : DriveSetting) → get_drive (make_drive f) d ≡ f d
drive_make f gains = refl
drive_make f stop = refl
drive_make f (waiting m) = motion_make (λ p. f (waiting p)) m
drive_make f (in_force m) = motion_make (λ p. f (in_force p)) m

pub get_make : (f : (s : Setting) → Value s) (s : Setting) → get (make f) s ≡ f s
get_make f place = refl
get_make f mask = refl
get_make f divisor = refl
get_make f (gate g) = gate_make (λ h. f (gate h)) g
get_make f (drive d) = drive_make (λ e. f (drive e)) d

-- settings that agree in each are the same
gate_same : (f : (g : GateSetting) → GateValue g) (x : GateSettings) → ((g : GateSetting) → f g ≡ get_gate x g) → make_gate f ≡ x
gate_same f x h = rw (h outputs, h pwm, h held, h timer)

motion_same : (f : MotionPart → ℕ) (x : Motion) → ((m : MotionPart) → f m ≡ get_motion x m) → make_motion f ≡ x
motion_same f x h = rw (h control, h position, h velocity, h acceleration, h power)

drive_same : (f : (d : DriveSetting) → DriveValue d) (x : DriveSettings) → ((d : DriveSetting) → f d ≡ get_drive x d) → make_drive f ≡ x
drive_same f x h =
    rw (h gains, h stop, motion_same (λ m. f (waiting m)) x.waiting (λ m. h (waiting m)), motion_same (λ m. f (in_force m)) x.in_force (λ m. h (in_force m)))

pub make_same : (f : (s : Setting) → Value s) (x : Settings) → ((s : Setting) → f s ≡ get x s) → make f ≡ x
make_same f x h =
    rw (h place, h mask, h divisor, gate_same (λ g. f (gate g)) x.gate (λ g. h (gate g)), drive_same (λ d. f (drive d)) x.drive (λ d. h (drive d)))
