-- Which command a role belongs to, and what holds of all commands of a role: whoever speaks of a role needs no list of commands.
use mathlib.Core.Bool.{true, false≢true}
use mathlib.Core.Path.{◌≡◌, refl}
use Rattle.command.specs.declared.Place.{Place}
use Rattle.command.specs.declared.Command.{Command}
use Rattle.command.specs.declared.Command.TheVariants.{SetAddress, DefineStatus, ReadStatus, SetPwm, SynchOutput, SetOutputs, SetSynchOutput, SetTimerMode, SetBaudRate, SynchInput, Nop, HardReset, ResetPosition, LoadTrajectory, StartMotion, SetGain, StopMotor}
use Rattle.command.specs.declared.Role.{Role}
use Rattle.command.specs.declared.Role.TheVariants.{Plain, Places, Paces, Masks, Captures, Zeroes, Idles, Resets}
use Rattle.command.specs.Role.{role_of, is_placing, is_nop, is_reset}

-- every role but Plain is that of one command
abbrev Belongs : Role → Command → Type 0
Belongs Plain c = Unit {0}
Belongs (Places p) c = c ≡ SetAddress p
Belongs (Paces d) c = c ≡ SetBaudRate d
Belongs (Masks m) c = c ≡ ReadStatus m
Belongs Captures c = c ≡ SynchInput
Belongs Zeroes c = c ≡ ResetPosition
Belongs Idles c = c ≡ Nop
Belongs Resets c = c ≡ HardReset

belongs : (c : Command) → Belongs (role_of c) c
belongs (SetAddress p) = refl
belongs (DefineStatus m) = tt
belongs (ReadStatus m) = refl
belongs (SetPwm w) = tt
belongs SynchOutput = tt
belongs (SetOutputs w) = tt
belongs (SetSynchOutput h) = tt
belongs (SetTimerMode m) = tt
belongs (SetBaudRate d) = refl
belongs SynchInput = refl
belongs Nop = refl
belongs HardReset = refl
belongs ResetPosition = refl
belongs (LoadTrajectory m) = tt
belongs StartMotion = tt
belongs (SetGain g) = tt
belongs (StopMotor s) = tt

resets_belongs : (r : Role) (c : Command) → Belongs r c → is_reset r ≡ true → c ≡ HardReset
resets_belongs Plain c b h = absurd (false≢true h)
resets_belongs (Places p) c b h = absurd (false≢true h)
resets_belongs (Paces d) c b h = absurd (false≢true h)
resets_belongs (Masks m) c b h = absurd (false≢true h)
resets_belongs Captures c b h = absurd (false≢true h)
resets_belongs Zeroes c b h = absurd (false≢true h)
resets_belongs Idles c b h = absurd (false≢true h)
resets_belongs Resets c b h = b

-- only Hard Reset resets
pub only_reset : (c : Command) → is_reset (role_of c) ≡ true → c ≡ HardReset
only_reset c = resets_belongs (role_of c) c (belongs c)

-- a command that gives a place is a Set Address
pub record PlacedBy (c : Command) : Type 0 where
  pub to : Place
  pub by : c ≡ SetAddress to

places_belongs : (r : Role) (c : Command) → Belongs r c → is_placing r ≡ true → PlacedBy c
places_belongs Plain c b h = absurd (false≢true h)
places_belongs (Places p) c b h = record { to = p; by = b }
places_belongs (Paces d) c b h = absurd (false≢true h)
places_belongs (Masks m) c b h = absurd (false≢true h)
places_belongs Captures c b h = absurd (false≢true h)
places_belongs Zeroes c b h = absurd (false≢true h)
places_belongs Idles c b h = absurd (false≢true h)
places_belongs Resets c b h = absurd (false≢true h)

-- only Set Address gives a place
pub only_places : (c : Command) → is_placing (role_of c) ≡ true → PlacedBy c
only_places c = places_belongs (role_of c) c (belongs c)

idles_belongs : (r : Role) (c : Command) → Belongs r c → is_nop r ≡ true → c ≡ Nop
idles_belongs Plain c b h = absurd (false≢true h)
idles_belongs (Places p) c b h = absurd (false≢true h)
idles_belongs (Paces d) c b h = absurd (false≢true h)
idles_belongs (Masks m) c b h = absurd (false≢true h)
idles_belongs Captures c b h = absurd (false≢true h)
idles_belongs Zeroes c b h = absurd (false≢true h)
idles_belongs Idles c b h = b
idles_belongs Resets c b h = absurd (false≢true h)

-- only Nop does nothing but be answered
pub only_nop : (c : Command) → is_nop (role_of c) ≡ true → c ≡ Nop
only_nop c = idles_belongs (role_of c) c (belongs c)
