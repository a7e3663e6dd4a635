-- The ranges of a command's values, by command and field: the manuals', and document 02, request 6: "A value outside the manual's ranges, a reserved bit set,
-- or more than one of a Stop byte's bits 1 to 4". What is off them is another command to a node, and the host refuses it with 6.
use Rattle.std.specs.Prelude.{ℕ, ◌+◌, ◌/◌, ◌%◌, Bool, true, cond, not, ◌&&◌, eqb, ltb, leb}
use Rattle.wire.specs.Address.{individual_in_range, group_in_range}
use Rattle.command.specs.declared.Place.{Place}
use Rattle.command.specs.declared.Gains.{Gains}
use Rattle.command.specs.declared.Motion.{Motion}
use Rattle.command.specs.declared.Stop.{Stop}
use Rattle.command.specs.declared.Command.{Command}
use Rattle.command.specs.declared.Command.TheVariants.{SetAddress, DefineStatus, ReadStatus, SetPwm, SynchOutput, SetOutputs, SetSynchOutput, SetTimerMode, SetBaudRate, SynchInput, Nop, HardReset, ResetPosition, LoadTrajectory, StartMotion, SetGain, StopMotor}
use Rattle.command.specs.Control.{loads_of, is_stop_here}

-- Set Address: an individual address and a group
abbrev pub place_fits : Place → Bool
place_fits p = individual_in_range p.address.0 && group_in_range p.group.0

-- Set Gain: KP, KD, KI, IL 0 to 0x7FFF, EL 0 to 0x3FFF, SR 1 to 0xFF; OL and DB 0 to 0xFF
abbrev pub gains_fit : Gains → Bool
gains_fit g = (leb g.kp 0x7FFF && leb g.kd 0x7FFF && leb g.ki 0x7FFF) && leb g.il 0x7FFF && leb g.el 0x3FFF && leb 1 g.sr

-- "Positions are signed, from -0x7FFFFFFF to 0x7FFFFFFF": in two's complement all but this one
abbrev pub position_fits : ℕ → Bool
position_fits p = not (eqb p 0x80000000)

-- a value that the command brings has its range; one that it doesn't bring is 0
abbrev pub value_fits : Bool → Bool → ℕ → Bool
value_fits brought fits v = cond brought fits (eqb v 0)

-- Load Trajectory: velocity and acceleration 0 to 0x7FFFFFFF, the PWM value 0 to 0xFF; no bit of the control byte is reserved
abbrev pub motion_fits : Motion → Bool
motion_fits m =
    value_fits (loads_of m.control).position (position_fits m.position) m.position
    && value_fits (loads_of m.control).velocity (leb m.velocity 0x7FFFFFFF) m.velocity
    && value_fits (loads_of m.control).acceleration (leb m.acceleration 0x7FFFFFFF) m.acceleration
    && value_fits (loads_of m.control).pwm true m.pwm

-- Stop Motor: bits 5 to 7 of the stop byte clear, and at most one of bits 1 to 4 set
abbrev pub stop_fits : Stop → Bool
stop_fits s =
    ltb s.byte 0x20
    && leb (s.byte / 2 % 2 + s.byte / 4 % 2 + s.byte / 8 % 2 + s.byte / 16 % 2) 1
    && value_fits (is_stop_here s.byte) (position_fits s.position) s.position

-- all other values may be any byte or word; document 02, request 7: a node "keeps any divisor sent"
abbrev pub fits_of : Command → Bool
fits_of (SetAddress p) = place_fits p
fits_of (DefineStatus m) = true
fits_of (ReadStatus m) = true
fits_of (SetPwm w) = true
fits_of SynchOutput = true
fits_of (SetOutputs w) = true
fits_of (SetSynchOutput h) = true
fits_of (SetTimerMode m) = true
fits_of (SetBaudRate d) = true
fits_of SynchInput = true
fits_of Nop = true
fits_of HardReset = true
fits_of ResetPosition = true
fits_of (LoadTrajectory m) = motion_fits m
fits_of StartMotion = true
fits_of (SetGain g) = gains_fit g
fits_of (StopMotor s) = stop_fits s
