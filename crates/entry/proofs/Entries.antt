-- What an exchange makes of an entry, setting by setting: whoever speaks of one setting needs only its effect.
use mathlib.Core.Bool.{Bool, true, false, true≢false}
use mathlib.Core.Path.{◌≡◌, refl}
use Rattle.wire.specs.declared.kind.Kind.{Kind}
use Rattle.command.specs.declared.Command.{Command}
use Rattle.status.specs.declared.Answer.{Answer}
use Rattle.status.specs.declared.Answer.TheVariants.{Clear, Marked, Silent}
use Rattle.node.specs.Setting.{GateSetting, outputs, pwm, held, timer, MotionPart, control, position, velocity, acceleration, power, DriveSetting, gains, stop, waiting, in_force, Setting, place, mask, divisor, gate, drive, get_make, make_same}
use Rattle.node.specs.Effect.{Effect, keeps, stores, copies, effect, writes}
use Rattle.entry.specs.declared.gate.GateKnown.{GateKnown}
use Rattle.entry.specs.declared.drive.MotionKnown.{MotionKnown}
use Rattle.entry.specs.declared.drive.DriveKnown.{DriveKnown}
use Rattle.entry.specs.declared.Known.{Known}
use Rattle.entry.specs.declared.Entry.{Entry}
use Rattle.entry.specs.declared.Reach.{Reach}
use Rattle.entry.specs.declared.Reach.TheVariants.{Misses, Hits, May}
use Rattle.entry.specs.Entry.{gate_flag, motion_flag, drive_flag, flag, gate_flags, motion_flags, drive_flags, flags, knows, shows, entry_power_up, new_flag, mark_of, new_value, confirm_of, doubt_of, note_flag, note_value, note_of, Quiet}

flag_gate : (f : GateSetting → Bool) (g : GateSetting) → gate_flag (gate_flags f) g ≡ f g
flag_gate f outputs = refl
flag_gate f pwm = refl
flag_gate f held = refl
flag_gate f timer = refl

flag_motion : (f : MotionPart → Bool) (m : MotionPart) → motion_flag (motion_flags f) m ≡ f m
flag_motion f control = refl
flag_motion f position = refl
flag_motion f velocity = refl
flag_motion f acceleration = refl
flag_motion f power = refl

flag_drive : (f : DriveSetting → Bool) (d : DriveSetting) → drive_flag (drive_flags f) d ≡ f d
flag_drive f gains = refl
flag_drive f stop = refl
flag_drive f (waiting m) = flag_motion (λ p. f (waiting p)) m
flag_drive f (in_force m) = flag_motion (λ p. f (in_force p)) m

flag_flags : (f : Setting → Bool) (s : Setting) → flag (flags f) s ≡ f s
flag_flags f place = refl
flag_flags f mask = refl
flag_flags f divisor = refl
flag_flags f (gate g) = flag_gate (λ h. f (gate h)) g
flag_flags f (drive d) = flag_drive (λ e. f (drive e)) d

-- flags that agree in each are the same
gate_same : (f : GateSetting → Bool) (k : GateKnown) → ((g : GateSetting) → f g ≡ gate_flag k g) → gate_flags f ≡ k
gate_same f k h = rw (h outputs, h pwm, h held, h timer)

motion_same : (f : MotionPart → Bool) (k : MotionKnown) → ((m : MotionPart) → f m ≡ motion_flag k m) → motion_flags f ≡ k
motion_same f k h = rw (h control, h position, h velocity, h acceleration, h power)

drive_same : (f : DriveSetting → Bool) (k : DriveKnown) → ((d : DriveSetting) → f d ≡ drive_flag k d) → drive_flags f ≡ k
drive_same f k h =
    rw (h gains, h stop, motion_same (λ m. f (waiting m)) k.waiting (λ m. h (waiting m)), motion_same (λ m. f (in_force m)) k.in_force (λ m. h (in_force m)))

flags_same : (f : Setting → Bool) (k : Known) → ((s : Setting) → f s ≡ flag k s) → flags f ≡ k
flags_same f k h =
    rw (h place, h mask, h divisor, gate_same (λ g. f (gate g)) k.gate (λ g. h (gate g)), drive_same (λ d. f (drive d)) k.drive (λ d. h (drive d)))

-- at power-up every setting is known
pub knows_up : (k : Kind) (s : Setting) → knows (entry_power_up k) s ≡ true
knows_up k = flag_flags (λ s. true)

pub knows_confirmed : (c : Command) (e : Entry) (s : Setting) → knows (confirm_of c e) s ≡ new_flag true (effect c s) e.known
knows_confirmed c e = flag_flags (λ s. new_flag true (effect c s) e.known)

pub shows_confirmed : (c : Command) (e : Entry) (s : Setting) → shows (confirm_of c e) s ≡ new_value (effect c s) e
shows_confirmed c e = get_make (λ s. new_value (effect c s) e)

pub knows_doubted : (c : Command) (e : Entry) (s : Setting) → knows (doubt_of c e) s ≡ new_flag false (effect c s) e.known
knows_doubted c e = flag_flags (λ s. new_flag false (effect c s) e.known)

-- doubt changes no value
pub shows_doubted : (c : Command) (e : Entry) (s : Setting) → shows (doubt_of c e) s ≡ shows e s
shows_doubted c e s = refl

pub knows_noted : (a : Answer) (r : Reach) (c : Command) (e : Entry) (s : Setting) → knows (note_of a r c e) s ≡ note_flag a r (effect c s) e
knows_noted Marked r c e s = refl
knows_noted Clear Misses c e s = refl
knows_noted Clear Hits c e s = knows_confirmed c e s
knows_noted Clear May c e s = knows_doubted c e s
knows_noted Silent Misses c e s = refl
knows_noted Silent Hits c e s = knows_doubted c e s
knows_noted Silent May c e s = knows_doubted c e s

pub shows_noted : (a : Answer) (r : Reach) (c : Command) (e : Entry) (s : Setting) → shows (note_of a r c e) s ≡ note_value a r (effect c s) e
shows_noted Marked r c e s = refl
shows_noted Clear Misses c e s = refl
shows_noted Clear Hits c e s = shows_confirmed c e s
shows_noted Clear May c e s = refl
shows_noted Silent Misses c e s = refl
shows_noted Silent Hits c e s = refl
shows_noted Silent May c e s = refl

-- what writes no setting leaves an entry as it is
flag_stays : {s : Setting} (sure : Bool) (f : Effect s) (k : Known) → writes f ≡ false → new_flag sure f k ≡ flag k s
flag_stays sure keeps k h = refl
flag_stays sure (stores v) k h = absurd (true≢false h)
flag_stays sure (copies t f) k h = absurd (true≢false h)

value_stays : {s : Setting} (f : Effect s) (e : Entry) → writes f ≡ false → new_value f e ≡ shows e s
value_stays keeps e h = refl
value_stays (stores v) e h = absurd (true≢false h)
value_stays (copies t f) e h = absurd (true≢false h)

marked_stays : (c : Command) → Quiet c → (sure : Bool) (k : Known) → mark_of c sure k ≡ k
marked_stays c q sure k = flags_same (λ s. new_flag sure (effect c s) k) k (λ s. flag_stays sure (effect c s) k (q s))

quiet_confirmed : (c : Command) → Quiet c → (e : Entry) → confirm_of c e ≡ e
quiet_confirmed c q e =
    rw (marked_stays c q true e.known, make_same (λ s. new_value (effect c s) e) e.settings (λ s. value_stays (effect c s) e (q s)))

quiet_doubted : (c : Command) → Quiet c → (e : Entry) → doubt_of c e ≡ e
quiet_doubted c q e = rw (marked_stays c q false e.known)

pub quiet_noted : (c : Command) → Quiet c → (a : Answer) (r : Reach) (e : Entry) → note_of a r c e ≡ e
quiet_noted c q Marked r e = refl
quiet_noted c q Clear Misses e = refl
quiet_noted c q Clear Hits e = quiet_confirmed c q e
quiet_noted c q Clear May e = quiet_doubted c q e
quiet_noted c q Silent Misses e = refl
quiet_noted c q Silent Hits e = quiet_doubted c q e
quiet_noted c q Silent May e = quiet_doubted c q e

-- the kind stays
pub kind_noted : (a : Answer) (r : Reach) (c : Command) (e : Entry) → (note_of a r c e).kind ≡ e.kind
kind_noted Marked r c e = refl
kind_noted Clear Misses c e = refl
kind_noted Clear Hits c e = refl
kind_noted Clear May c e = refl
kind_noted Silent Misses c e = refl
kind_noted Silent Hits c e = refl
kind_noted Silent May c e = refl
