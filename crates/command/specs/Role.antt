-- What a command is beside its data: one table. Whatever treats some commands alike goes by the role, so that a new command is one row here.
use Rattle.std.specs.Prelude.{Bool, true, false}
use Rattle.command.specs.declared.Command.{Command}
use Rattle.command.specs.declared.Command.TheVariants.{SetAddress, DefineStatus, ReadStatus, SetPwm, SynchOutput, SetOutputs, SetSynchOutput, SetTimerMode, SetBaudRate, SynchInput, Nop, HardReset, ResetPosition, LoadTrajectory, StartMotion, SetGain, StopMotor}
use Rattle.command.specs.declared.Role.{Role}
use Rattle.command.specs.declared.Role.TheVariants.{Plain, Places, Paces, Masks, Captures, Zeroes, Idles, Resets}

-- Set Address places, Set Baud Rate paces, Read Status has its own mask, Synch Input captures, Reset Position zeroes, Hard Reset resets; Nop does nothing, and the others store or copy settings, no more
abbrev pub role_of : Command → Role
role_of (SetAddress p) = Places p
role_of (DefineStatus m) = Plain
role_of (ReadStatus m) = Masks m
role_of (SetPwm w) = Plain
role_of SynchOutput = Plain
role_of (SetOutputs w) = Plain
role_of (SetSynchOutput h) = Plain
role_of (SetTimerMode m) = Plain
role_of (SetBaudRate d) = Paces d
role_of SynchInput = Captures
role_of Nop = Idles
role_of HardReset = Resets
role_of ResetPosition = Zeroes
role_of (LoadTrajectory m) = Plain
role_of StartMotion = Plain
role_of (SetGain g) = Plain
role_of (StopMotor s) = Plain

-- Set Address: sent by "next" and by "regroup" alone
abbrev pub is_placing : Role → Bool
is_placing Plain = false
is_placing (Places p) = true
is_placing (Paces d) = false
is_placing (Masks m) = false
is_placing Captures = false
is_placing Zeroes = false
is_placing Idles = false
is_placing Resets = false

-- Set Baud Rate: "a node acts on it only when it came to its group", and it is "set only by group"
abbrev pub is_pacing : Role → Bool
is_pacing Plain = false
is_pacing (Places p) = false
is_pacing (Paces d) = true
is_pacing (Masks m) = false
is_pacing Captures = false
is_pacing Zeroes = false
is_pacing Idles = false
is_pacing Resets = false

-- Nop: what "ask" sends
abbrev pub is_nop : Role → Bool
is_nop Plain = false
is_nop (Places p) = false
is_nop (Paces d) = false
is_nop (Masks m) = false
is_nop Captures = false
is_nop Zeroes = false
is_nop Idles = true
is_nop Resets = false

-- Hard Reset: it "sends no reply", and "closes the session"
abbrev pub is_reset : Role → Bool
is_reset Plain = false
is_reset (Places p) = false
is_reset (Paces d) = false
is_reset (Masks m) = false
is_reset Captures = false
is_reset Zeroes = false
is_reset Idles = false
is_reset Resets = true
