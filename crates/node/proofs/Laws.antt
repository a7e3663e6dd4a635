-- What packets do to a node, and what they leave.
use Prim.Native.Nat.{◌≤◌}
use mathlib.Core.Bool.{Bool, true, false, cond, ◌||◌, or-true, true≢false, false≢true}
use mathlib.Core.Path.{◌≡◌, refl, sym, ◌∙◌}
use Rattle.command.specs.declared.Place.{Place}
use Rattle.command.specs.declared.Command.{Command}
use Rattle.command.specs.declared.Command.TheVariants.{SetAddress, DefineStatus, ReadStatus, SetPwm, SynchOutput, SetOutputs, SetSynchOutput, SetTimerMode, SetBaudRate, SynchInput, Nop, HardReset, ResetPosition, LoadTrajectory, StartMotion, SetGain, StopMotor}
use Rattle.command.specs.declared.Role.{Role}
use Rattle.command.specs.declared.Role.TheVariants.{Plain, Places, Paces, Masks, Captures, Zeroes, Idles, Resets}
use Rattle.command.specs.Role.{role_of, is_placing, is_reset}
use Rattle.command.specs.Ranges.{place_fits, fits_of}
use Rattle.command.specs.Owner.{has, has_by, owner_of}
use borrow.Author.Tests.{le-leb}
use Rattle.wire.specs.Kind.{is_gate}
use Rattle.wire.specs.declared.kind.Kind.{Kind}
use Rattle.command.specs.declared.Owner.{Owner}
use Rattle.command.specs.declared.Owner.TheVariants as owner
use Rattle.wire.proofs.Choice.{neither}
use Rattle.node.specs.declared.state.Settings.{Settings}
use Rattle.node.specs.declared.state.Node.{Node}
use Rattle.message.specs.declared.Message.{Message}
use Rattle.message.specs.declared.Message.TheVariants.{Intact, Other, Spoilt}
use Rattle.node.specs.Setting.{Setting, place, mask, divisor, gate, drive, DriveSetting, owns, Value, get, make_same, GateSetting}
use Rattle.node.specs.Effect.{Effect, keeps, stores, copies, settings_power_up, divisor_up, on_place, on_mask, on_divisor, on_gate, on_drive, effect, writes, applied, settings_after, get_after, own_after, get_own}
use Rattle.node.specs.Node.{nothing, does_heed, addressed_after, act_as, take_of}

-- "Others .. change nothing"
pub other_keeps : (n : Node) → take_of Other n ≡ n
other_keeps n = refl

-- "Wrong sum: nothing changes"
pub spoilt_keeps : (n : Node) → take_of Spoilt n ≡ n
spoilt_keeps n = refl

-- no packet changes what the bench sets, nor what kind a node is
stays_by : {A : Type 0} (f : Node → A) (b : Bool) (x y : Node) → f x ≡ f y → f (cond b x y) ≡ f y
stays_by f true x y e = e
stays_by f false x y e = refl

pub bench_stays : (h : Message) (n : Node) → (take_of h n).bench ≡ n.bench
bench_stays (Intact c) n = stays_by (λ (m : Node). m.bench) (does_heed n.kind (role_of c)) (act_as n.kind c n) n refl
bench_stays Other n = refl
bench_stays Spoilt n = refl

pub kind_stays : (h : Message) (n : Node) → (take_of h n).kind ≡ n.kind
kind_stays (Intact c) n = stays_by (λ (m : Node). m.kind) (does_heed n.kind (role_of c)) (act_as n.kind c n) n refl
kind_stays Other n = refl
kind_stays Spoilt n = refl

-- "Hard Reset .. restores power-up state, except that bench values stay": each of the node's own settings,
pub reset_powers_up : (n : Node) (s : Setting) → owns n.kind s ≡ true → get (take_of (Intact HardReset) n).settings s ≡ get settings_power_up s
reset_powers_up n s h = get_own n.kind HardReset n.settings s ∙ rw h

-- a gate's captured values and a drive's position
pub reset_captures : (n : Node) → is_gate n.kind ≡ true → (take_of (Intact HardReset) n).captured ≡ nothing
reset_captures n h = rw h

pub reset_zeroes : (n : Node) → is_gate n.kind ≡ false → (take_of (Intact HardReset) n).position ≡ 0
reset_zeroes n h = rw h

-- ---- which settings are written

applied_keeps : (s : Setting) (e : Effect s) (x : Settings) → writes e ≡ false → applied e x ≡ get x s
applied_keeps s keeps x h = refl
applied_keeps s (stores v) x h = absurd (false≢true (sym h))
applied_keeps s (copies t f) x h = absurd (false≢true (sym h))

-- a setting that a command doesn't write stays
pub unwritten_stays : (c : Command) (x : Settings) (s : Setting) → writes (effect c s) ≡ false → get (settings_after c x) s ≡ get x s
unwritten_stays c x s h = get_after c x s ∙ applied_keeps s (effect c s) x h

-- "Nop, Read Status and Synch Input write no setting"
pub nop_writes : (s : Setting) → writes (effect Nop s) ≡ false
nop_writes s = refl

pub read_status_writes : (m : Value mask) (s : Setting) → writes (effect (ReadStatus m) s) ≡ false
read_status_writes m s = refl

pub synch_input_writes : (s : Setting) → writes (effect SynchInput s) ≡ false
synch_input_writes s = refl

-- what a command does to the place, by its role
abbrev pub place_effect : Role → Effect place
place_effect Plain = keeps
place_effect (Places p) = stores p
place_effect (Paces d) = keeps
place_effect (Masks m) = keeps
place_effect Captures = keeps
place_effect Zeroes = keeps
place_effect Idles = keeps
place_effect Resets = stores settings_power_up.place

pub place_effect_lem : (c : Command) → effect c place ≡ place_effect (role_of c)
place_effect_lem (SetAddress p) = refl
place_effect_lem (DefineStatus m) = refl
place_effect_lem (ReadStatus m) = refl
place_effect_lem (SetPwm w) = refl
place_effect_lem SynchOutput = refl
place_effect_lem (SetOutputs w) = refl
place_effect_lem (SetSynchOutput h) = refl
place_effect_lem (SetTimerMode m) = refl
place_effect_lem (SetBaudRate d) = refl
place_effect_lem SynchInput = refl
place_effect_lem Nop = refl
place_effect_lem HardReset = refl
place_effect_lem ResetPosition = refl
place_effect_lem (LoadTrajectory m) = refl
place_effect_lem StartMotion = refl
place_effect_lem (SetGain g) = refl
place_effect_lem (StopMotor s) = refl

writes_by : (r : Role) → writes (place_effect r) ≡ (is_placing r || is_reset r)
writes_by Plain = refl
writes_by (Places p) = refl
writes_by (Paces d) = refl
writes_by (Masks m) = refl
writes_by Captures = refl
writes_by Zeroes = refl
writes_by Idles = refl
writes_by Resets = refl

-- the place is written by what places and by what resets alone
pub place_writes : (c : Command) → writes (effect c place) ≡ (is_placing (role_of c) || is_reset (role_of c))
place_writes c = rw (place_effect_lem c) (writes_by (role_of c))

-- so what leaves the place does not reset
pub not_reset : (c : Command) → writes (effect c place) ≡ false → is_reset (role_of c) ≡ false
not_reset c h = (neither (is_placing (role_of c)) (is_reset (role_of c)) (sym (place_writes c) ∙ h)).1

placed_already : (x : Settings) (p : Place) → x.place ≡ p → (s : Setting) → applied (effect (SetAddress p) s) x ≡ get x s
placed_already x p e place = sym e
placed_already x p e mask = refl
placed_already x p e divisor = refl
placed_already x p e (gate g) = refl
placed_already x p e (drive d) = refl

-- a node that has the place already
pub placed_again : (x : Settings) (p : Place) → x.place ≡ p → settings_after (SetAddress p) x ≡ x
placed_again x p e = make_same (λ s. applied (effect (SetAddress p) s) x) x (placed_already x p e)

-- what a command does to the divisor, by its role
abbrev pub divisor_effect : Role → Effect divisor
divisor_effect Plain = keeps
divisor_effect (Places p) = keeps
divisor_effect (Paces d) = stores d
divisor_effect (Masks m) = keeps
divisor_effect Captures = keeps
divisor_effect Zeroes = keeps
divisor_effect Idles = keeps
divisor_effect Resets = stores divisor_up

pub divisor_effect_lem : (c : Command) → effect c divisor ≡ divisor_effect (role_of c)
divisor_effect_lem (SetAddress p) = refl
divisor_effect_lem (DefineStatus m) = refl
divisor_effect_lem (ReadStatus m) = refl
divisor_effect_lem (SetPwm w) = refl
divisor_effect_lem SynchOutput = refl
divisor_effect_lem (SetOutputs w) = refl
divisor_effect_lem (SetSynchOutput h) = refl
divisor_effect_lem (SetTimerMode m) = refl
divisor_effect_lem (SetBaudRate d) = refl
divisor_effect_lem SynchInput = refl
divisor_effect_lem Nop = refl
divisor_effect_lem HardReset = refl
divisor_effect_lem ResetPosition = refl
divisor_effect_lem (LoadTrajectory m) = refl
divisor_effect_lem StartMotion = refl
divisor_effect_lem (SetGain g) = refl
divisor_effect_lem (StopMotor s) = refl

paced_already : (x : Settings) (d : Value divisor) → x.divisor ≡ d → (s : Setting) → applied (effect (SetBaudRate d) s) x ≡ get x s
paced_already x d e place = refl
paced_already x d e mask = refl
paced_already x d e divisor = sym e
paced_already x d e (gate g) = refl
paced_already x d e (drive y) = refl

-- a node that has the divisor already
pub paced_again : (x : Settings) (d : Value divisor) → x.divisor ≡ d → settings_after (SetBaudRate d) x ≡ x
paced_again x d e = make_same (λ s. applied (effect (SetBaudRate d) s) x) x (paced_already x d e)

fits_by : (c : Command) (x : Settings) → fits_of c ≡ true → place_fits x.place ≡ true → place_fits (settings_after c x).place ≡ true
fits_by (SetAddress p) x f h = f
fits_by (DefineStatus m) x f h = h
fits_by (ReadStatus m) x f h = h
fits_by (SetPwm w) x f h = h
fits_by SynchOutput x f h = h
fits_by (SetOutputs w) x f h = h
fits_by (SetSynchOutput g) x f h = h
fits_by (SetTimerMode m) x f h = h
fits_by (SetBaudRate d) x f h = h
fits_by SynchInput x f h = h
fits_by Nop x f h = h
fits_by HardReset x f h = refl
fits_by ResetPosition x f h = h
fits_by (LoadTrajectory m) x f h = h
fits_by StartMotion x f h = h
fits_by (SetGain g) x f h = h
fits_by (StopMotor s) x f h = h

-- a command whose values are of their range leaves every place of its range
pub fit_after : (c : Command) → fits_of c ≡ true → (x : Settings) → place_fits x.place ≡ true → place_fits (settings_after c x).place ≡ true
fit_after c f x h = fits_by c x f h

-- ---- addressed or not

-- "The node is addressed from then on"
pub set_address_addresses : (p : Place) (n : Node) → does_heed n.kind (Places p) ≡ true → (take_of (Intact (SetAddress p)) n).addressed ≡ true
set_address_addresses p n h = rw h

pub reset_unaddresses : (n : Node) → (take_of (Intact HardReset) n).addressed ≡ false
reset_unaddresses n = refl

role_stays : (r : Role) (b : Bool) → writes (place_effect r) ≡ false → addressed_after r b ≡ b
role_stays Plain b h = refl
role_stays (Places p) b h = absurd (true≢false h)
role_stays (Paces d) b h = refl
role_stays (Masks m) b h = refl
role_stays Captures b h = refl
role_stays Zeroes b h = refl
role_stays Idles b h = refl
role_stays Resets b h = absurd (true≢false h)

-- a command that leaves the place leaves that too
pub addressed_after_lem : (c : Command) (b : Bool) → writes (effect c place) ≡ false → addressed_after (role_of c) b ≡ b
addressed_after_lem c b h = role_stays (role_of c) b (rw (place_effect_lem c) at h)

-- and is heeded by either kind
role_heeds : (k : Kind) (r : Role) → writes (place_effect r) ≡ false → does_heed k r ≡ true
role_heeds k Plain h = refl
role_heeds k (Places p) h = absurd (true≢false h)
role_heeds k (Paces d) h = refl
role_heeds k (Masks m) h = refl
role_heeds k Captures h = refl
role_heeds k Zeroes h = refl
role_heeds k Idles h = refl
role_heeds k Resets h = refl

pub unplaced_heeds : (k : Kind) (c : Command) → writes (effect c place) ≡ false → does_heed k (role_of c) ≡ true
unplaced_heeds k c h = role_heeds k (role_of c) (rw (place_effect_lem c) at h)

-- so is every place but that of address 0x00
pub placed_heeds : (k : Kind) (p : Place) → 1 ≤ p.address.0 → does_heed k (Places p) ≡ true
placed_heeds k p l = rw (le-leb 1 p.address.0 l) (or-true (is_gate k))

-- whether it acts is all that counts then
pub acted_addressed : (c : Command) (n : Node) → does_heed n.kind (role_of c) ≡ true → (take_of (Intact c) n).addressed ≡ addressed_after (role_of c) n.addressed
acted_addressed c n h = rw h

-- ---- a node's own

-- the settings that a command may write, by who has it; Hard Reset writes all
abbrev reaches : Owner → Setting → Bool
reaches owner.Both place = true
reaches owner.Both mask = true
reaches owner.Both divisor = true
reaches owner.Both (gate g) = false
reaches owner.Both (drive d) = false
reaches owner.Gate place = false
reaches owner.Gate mask = false
reaches owner.Gate divisor = false
reaches owner.Gate (gate g) = true
reaches owner.Gate (drive d) = false
reaches owner.Drive place = false
reaches owner.Drive mask = false
reaches owner.Drive divisor = false
reaches owner.Drive (gate g) = false
reaches owner.Drive (drive d) = true

on_place_lem : (e : Effect place) (s : Setting) → reaches owner.Both s ≡ false → writes (on_place e s) ≡ false
on_place_lem e place h = absurd (true≢false h)
on_place_lem e mask h = absurd (true≢false h)
on_place_lem e divisor h = absurd (true≢false h)
on_place_lem e (gate g) h = refl
on_place_lem e (drive d) h = refl

on_mask_lem : (e : Effect mask) (s : Setting) → reaches owner.Both s ≡ false → writes (on_mask e s) ≡ false
on_mask_lem e place h = absurd (true≢false h)
on_mask_lem e mask h = absurd (true≢false h)
on_mask_lem e divisor h = absurd (true≢false h)
on_mask_lem e (gate g) h = refl
on_mask_lem e (drive d) h = refl

on_divisor_lem : (e : Effect divisor) (s : Setting) → reaches owner.Both s ≡ false → writes (on_divisor e s) ≡ false
on_divisor_lem e place h = absurd (true≢false h)
on_divisor_lem e mask h = absurd (true≢false h)
on_divisor_lem e divisor h = absurd (true≢false h)
on_divisor_lem e (gate g) h = refl
on_divisor_lem e (drive d) h = refl

on_gate_lem : (r : (g : GateSetting) → Effect (gate g)) (s : Setting) → reaches owner.Gate s ≡ false → writes (on_gate r s) ≡ false
on_gate_lem r place h = refl
on_gate_lem r mask h = refl
on_gate_lem r divisor h = refl
on_gate_lem r (gate g) h = absurd (true≢false h)
on_gate_lem r (drive d) h = refl

on_drive_lem : (r : (d : DriveSetting) → Effect (drive d)) (s : Setting) → reaches owner.Drive s ≡ false → writes (on_drive r s) ≡ false
on_drive_lem r place h = refl
on_drive_lem r mask h = refl
on_drive_lem r divisor h = refl
on_drive_lem r (gate g) h = refl
on_drive_lem r (drive d) h = absurd (true≢false h)

within : (c : Command) (s : Setting) → is_reset (role_of c) ≡ false → reaches (owner_of c) s ≡ false → writes (effect c s) ≡ false
within (SetAddress p) s n h = on_place_lem _ s h
within (DefineStatus m) s n h = on_mask_lem _ s h
within (ReadStatus m) s n h = refl
within (SetPwm w) s n h = on_gate_lem _ s h
within SynchOutput s n h = on_gate_lem _ s h
within (SetOutputs w) s n h = on_gate_lem _ s h
within (SetSynchOutput x) s n h = on_gate_lem _ s h
within (SetTimerMode m) s n h = on_gate_lem _ s h
within (SetBaudRate d) s n h = on_divisor_lem _ s h
within SynchInput s n h = refl
within Nop s n h = refl
within HardReset s n h = absurd (true≢false n)
within ResetPosition s n h = refl
within (LoadTrajectory m) s n h = on_drive_lem _ s h
within StartMotion s n h = on_drive_lem _ s h
within (SetGain g) s n h = on_drive_lem _ s h
within (StopMotor x) s n h = on_drive_lem _ s h

not_own : (k : Kind) (o : Owner) (s : Setting) → has_by k o ≡ true → owns k s ≡ false → reaches o s ≡ false
not_own k owner.Both place h f = absurd (true≢false f)
not_own k owner.Both mask h f = absurd (true≢false f)
not_own k owner.Both divisor h f = absurd (true≢false f)
not_own k owner.Both (gate g) h f = refl
not_own k owner.Both (drive d) h f = refl
not_own k owner.Gate place h f = refl
not_own k owner.Gate mask h f = refl
not_own k owner.Gate divisor h f = refl
not_own k owner.Gate (gate g) h f = absurd (true≢false (sym h ∙ f))
not_own k owner.Gate (drive d) h f = refl
not_own k owner.Drive place h f = refl
not_own k owner.Drive mask h f = refl
not_own k owner.Drive divisor h f = refl
not_own k owner.Drive (gate g) h f = refl
not_own k owner.Drive (drive d) h f = absurd (true≢false (sym h ∙ f))

-- a command that a kind has, other than Hard Reset, writes none of the other kind's settings
pub own_writes : (k : Kind) (c : Command) (s : Setting) → has k c ≡ true → is_reset (role_of c) ≡ false → owns k s ≡ false → writes (effect c s) ≡ false
own_writes k c s h n f = within c s n (not_own k (owner_of c) s h f)

-- so the table is what a node of that kind makes of it
own_table : (k : Kind) (c : Command) (x : Settings) (s : Setting) → has k c ≡ true → is_reset (role_of c) ≡ false → (b : Bool) → owns k s ≡ b
    → cond b (applied (effect c s) x) (get x s) ≡ applied (effect c s) x
own_table k c x s h n true e = refl
own_table k c x s h n false e = sym (applied_keeps s (effect c s) x (own_writes k c s h n e))

pub own_after_lem : (k : Kind) (c : Command) (x : Settings) → has k c ≡ true → is_reset (role_of c) ≡ false → own_after k c x ≡ settings_after c x
own_after_lem k c x h n =
    make_same (λ s. cond (owns k s) (applied (effect c s) x) (get x s)) (settings_after c x) (λ s. own_table k c x s h n (owns k s) refl ∙ sym (get_after c x s))

-- the settings of a node after a command that its kind has and that it heeds
pub acted_settings : (c : Command) (n : Node) → has n.kind c ≡ true → does_heed n.kind (role_of c) ≡ true → is_reset (role_of c) ≡ false
    → (take_of (Intact c) n).settings ≡ settings_after c n.settings
acted_settings c n h d r = rw d (own_after_lem n.kind c n.settings h r)
