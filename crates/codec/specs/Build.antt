-- A command's number and data bytes, and what building its packet answers and leaves.
use Rattle.std.specs.Prelude.{ℕ, ◌+◌, ◌%◌, ◌/◌, ◌<◌, Bool, cond, List, [], ◌∷◌, ◌++◌, Result}
use Rattle.wire.specs.declared.refusal.Refusal.{Refusal}
use Rattle.wire.specs.Promise.{Outcome}
use Rattle.wire.specs.Address.{in_range, byte_of}
use Rattle.buffer.specs.Buffer.{refused, written}
use Rattle.wire.specs.declared.address.Address.{Address}
use Rattle.wire.specs.declared.refusal.Refusal.TheVariants.{Range}
use Rattle.packet.specs.Build.{packet_of}
use Rattle.command.specs.Role.{role_of}
use Rattle.command.specs.Control.{loads_of, is_stop_here}
use Rattle.command.specs.Ranges.{fits_of}
use Rattle.command.specs.declared.Place.{Place}
use Rattle.command.specs.declared.Gains.{Gains}
use Rattle.command.specs.declared.Motion.{Motion}
use Rattle.command.specs.declared.Stop.{Stop}
use Rattle.command.specs.declared.Command.{Command}
use Rattle.command.specs.declared.Command.TheVariants.{SetAddress, DefineStatus, ReadStatus, SetPwm, SynchOutput, SetOutputs, SetSynchOutput, SetTimerMode, SetBaudRate, SynchInput, Nop, HardReset, ResetPosition, LoadTrajectory, StartMotion, SetGain, StopMotor}
use Rattle.command.specs.declared.Role.{Role}
use Rattle.command.specs.declared.Role.TheVariants.{Plain, Places, Paces, Masks, Captures, Zeroes, Idles, Resets}

-- the command's number
abbrev pub code_of : Command → ℕ
code_of (SetAddress p) = 0x1
code_of (DefineStatus m) = 0x2
code_of (ReadStatus m) = 0x3
code_of (SetPwm w) = 0x4
code_of SynchOutput = 0x5
code_of (SetOutputs w) = 0x6
code_of (SetSynchOutput h) = 0x7
code_of (SetTimerMode m) = 0x8
code_of (SetBaudRate d) = 0xA
code_of SynchInput = 0xC
code_of Nop = 0xE
code_of HardReset = 0xF
code_of ResetPosition = 0x0
code_of (LoadTrajectory m) = 0x4
code_of StartMotion = 0x5
code_of (SetGain g) = 0x6
code_of (StopMotor s) = 0x7

-- the group, with bit 7 clear for a leader
abbrev pub group_byte : Place → ℕ
group_byte p = cond p.leader (p.group.0 % 0x80) (p.group.0 % 0x80 + 0x80)

-- "wide values go least significant byte first"
abbrev pub word_bytes : ℕ → List ℕ
word_bytes w = w % 256 ∷ w / 256 ∷ []

abbrev pub long_bytes : ℕ → List ℕ
long_bytes v = v % 256 ∷ v / 256 % 256 ∷ v / 65536 % 256 ∷ v / 16777216 ∷ []

-- the bytes of a value that the command brings
abbrev pub bytes_if : Bool → List ℕ → List ℕ
bytes_if brought d = cond brought d []

-- Load Trajectory: the control byte, and the values whose bits are set
unfoldable pub load_data : Motion → List ℕ
load_data m =
    m.control
    ∷ (bytes_if (loads_of m.control).position (long_bytes m.position)
    ++ (bytes_if (loads_of m.control).velocity (long_bytes m.velocity)
    ++ (bytes_if (loads_of m.control).acceleration (long_bytes m.acceleration)
    ++ bytes_if (loads_of m.control).pwm (m.pwm ∷ []))))

-- Set Gain: KP, KD, KI and IL, OL, a zero, EL, SR, DB
unfoldable pub gain_data : Gains → List ℕ
gain_data g =
    word_bytes g.kp ++ (word_bytes g.kd ++ (word_bytes g.ki ++ (word_bytes g.il ++ (g.ol ∷ 0 ∷ (word_bytes g.el ++ (g.sr ∷ g.db ∷ []))))))

-- Stop Motor: the stop byte, and the position if its bit 4 is set
unfoldable pub stop_data : Stop → List ℕ
stop_data s = s.byte ∷ bytes_if (is_stop_here s.byte) (long_bytes s.position)

-- a command's data bytes
abbrev pub own_data : Command → List ℕ
own_data (SetAddress p) = p.address.0 ∷ group_byte p ∷ []
own_data (DefineStatus m) = m ∷ []
own_data (ReadStatus m) = m ∷ []
own_data (SetPwm w) = w.first ∷ w.second ∷ []
own_data SynchOutput = []
own_data (SetOutputs w) = word_bytes w
own_data (SetSynchOutput h) = word_bytes h.outputs ++ (h.pwm.first ∷ h.pwm.second ∷ [])
own_data (SetTimerMode m) = m ∷ []
own_data (SetBaudRate d) = d ∷ []
own_data SynchInput = []
own_data Nop = []
own_data HardReset = []
own_data ResetPosition = []
own_data (LoadTrajectory m) = load_data m
own_data StartMotion = []
own_data (SetGain g) = gain_data g
own_data (StopMotor s) = stop_data s

-- what a command's types admit, as far as reading it back needs it: a group is a byte
abbrev pub typed_by : Role → Type 0
typed_by Plain = Unit {0}
typed_by (Places p) = p.group.0 < 256
typed_by (Paces d) = Unit {0}
typed_by (Masks m) = Unit {0}
typed_by Captures = Unit {0}
typed_by Zeroes = Unit {0}
typed_by Idles = Unit {0}
typed_by Resets = Unit {0}

abbrev pub Typed : Command → Type 0
Typed c = typed_by (role_of c)

-- the packet of a command to an address byte, and to an address
abbrev pub packet_to : ℕ → Command → List ℕ
packet_to a c = packet_of a (code_of c) (own_data c)

abbrev pub packet_for : Address → Command → List ℕ
packet_for to c = packet_to (byte_of to) c

-- 6, then 5
unfoldable pub build_for : ℕ → Command → List ℕ → Outcome (Result ℕ Refusal) (List ℕ)
build_for a c out = cond (fits_of c) (written (packet_to a c) out) (refused Range out)

unfoldable pub codec_build : Address → Command → List ℕ → Outcome (Result ℕ Refusal) (List ℕ)
codec_build to c out = cond (in_range to) (build_for (byte_of to) c out) (refused Range out)
