-- Document 02, request 6: which kind of node has which command. One table: "a command that the kind of a node .. lacks" is read off it.
use Rattle.std.specs.Prelude.{Bool, true, not}
use Rattle.wire.specs.Kind.{is_gate}
use Rattle.wire.specs.declared.kind.Kind.{Kind}
use Rattle.command.specs.declared.Command.{Command}
use Rattle.command.specs.declared.Command.TheVariants.{SetAddress, DefineStatus, ReadStatus, SetPwm, SynchOutput, SetOutputs, SetSynchOutput, SetTimerMode, SetBaudRate, SynchInput, Nop, HardReset, ResetPosition, LoadTrajectory, StartMotion, SetGain, StopMotor}
use Rattle.command.specs.declared.Owner.{Owner}
use Rattle.command.specs.declared.Owner.TheVariants.{Both, Gate, Drive}

-- "the shared commands", the LS-773's own, and "Reset Position, Load Trajectory, Start Motion, Set Gain, Stop Motor";
-- "Synch Output and Start Motion share a byte and are two commands here", as Set PWM and a Load Trajectory do
abbrev pub owner_of : Command → Owner
owner_of (SetAddress p) = Both
owner_of (DefineStatus m) = Both
owner_of (ReadStatus m) = Both
owner_of (SetPwm w) = Gate
owner_of SynchOutput = Gate
owner_of (SetOutputs w) = Gate
owner_of (SetSynchOutput h) = Gate
owner_of (SetTimerMode m) = Gate
owner_of (SetBaudRate d) = Both
owner_of SynchInput = Gate
owner_of Nop = Both
owner_of HardReset = Both
owner_of ResetPosition = Drive
owner_of (LoadTrajectory m) = Drive
owner_of StartMotion = Drive
owner_of (SetGain g) = Drive
owner_of (StopMotor s) = Drive

-- by who has it
abbrev pub has_by : Kind → Owner → Bool
has_by k Both = true
has_by k Gate = is_gate k
has_by k Drive = not (is_gate k)

-- a kind of node has a command
abbrev pub has : Kind → Command → Bool
has k c = has_by k (owner_of c)
