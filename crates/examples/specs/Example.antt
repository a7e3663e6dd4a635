-- Document 01, "Examples": what an example is, and when it holds. Each kind is held to the definitions that the contracts cite.
use Rattle.std.specs.Prelude.{ℕ, Bool, true, false, List, [], ◌∷◌, ◌≡◌, length, replicate}
use Rattle.wire.specs.Numbers.{number_by}
use Rattle.wire.specs.Promise.{Outcome}
use Rattle.wire.specs.Address.{byte_of}
use Rattle.buffer.specs.Buffer.{written}
use Rattle.wire.specs.declared.kind.Kind.TheVariants.{Gate}
use Rattle.wire.specs.declared.address.Individual.{Individual}
use Rattle.wire.specs.declared.address.Group.{Group}
use Rattle.wire.specs.declared.address.Address.{Address}
use Rattle.packet.specs.Packet.{read_of}
use Rattle.packet.specs.Build.{build_of}
use Rattle.command.specs.declared.Place.{Place}
use Rattle.command.specs.declared.Command.{Command}
use Rattle.codec.specs.Reading.{ReadsAs}
use Rattle.codec.specs.Build.{code_of, own_data, codec_build}
use Rattle.status.specs.declared.Answer.TheVariants.{Silent}
use Rattle.node.specs.declared.state.Settings.{Settings}
use Rattle.node.specs.Effect.{settings_power_up, divisor_up}
use Rattle.entry.specs.declared.Known.{Known}
use Rattle.entry.specs.declared.Entry.{Entry}
use Rattle.entry.specs.Entry.{entry_power_up}
use Rattle.session.specs.declared.Exchange.{Exchange}
use Rattle.session.specs.declared.Exchange.TheVariants.{Idle}
use Rattle.session.specs.declared.Session.{Session}
use Rattle.session.specs.declared.Step.{Step}
use Rattle.session.specs.Session.{step_number, given_place}
use Rattle.walk.specs.Walk.{next_of, ask_of}
use Rattle.host.specs.Calls.{order_of, regroup_of}
use Rattle.reports.specs.Report.{finish_of, report_of}

-- what the host does, or is told
pub data Event : Type 0 where
  next ask : Event
  order : Address → Command → Event
  regroup : Individual → Group → Bool → Event
  silence : Event
  reply : List ℕ → Event

-- a lent buffer with room for every packet
abbrev pub buffer : List ℕ
buffer = replicate 19 0

-- what an event makes of a session; every command goes at power-up's divisor
abbrev pub step_of : Event → Session → Step
step_of next s = (next_of s divisor_up buffer).answer
step_of ask s = (ask_of s divisor_up buffer).answer
step_of (order to c) s = (order_of s divisor_up to c buffer).answer
step_of (regroup i g leader) s = (regroup_of s divisor_up i g leader buffer).answer
step_of silence s = finish_of s Silent
step_of (reply bytes) s = report_of s bytes

-- the numbers that a course of events gives, one for each, and the session after it
abbrev pub ran : List Event → Session → Outcome (List ℕ) Session
ran [] s = record { answer = []; left = s }
ran (e ∷ es) s = record { answer = step_number (step_of e s) ∷ (ran es (step_of e s).session).answer; left = (ran es (step_of e s).session).left }

-- a gate's settings known, but for outputs, PWM pair and held set as given
abbrev pub known_but : Bool → Bool → Bool → Known
known_but outputs pwm held = record { place = true; mask = true; divisor = true; gate = record { outputs = outputs; pwm = pwm; held = held; timer = true }; drive = (entry_power_up Gate).known.drive }

-- a node's settings: its place, its outputs; all else as power-up has it
abbrev pub settings_with : Place → ℕ → Settings
settings_with written outputs = record {
  drive = settings_power_up.drive;
  gate = record { outputs = outputs; held = settings_power_up.gate.held; pwm = settings_power_up.gate.pwm; timer = 0 };
  place = written;
  mask = 0;
  divisor = divisor_up;
}

-- and its entry, with what is known
abbrev pub entry_with : Place → ℕ → Known → Entry
entry_with written outputs known = record { settings = settings_with written outputs; known = known; kind = Gate }

-- a node at power-up whose place, and nothing else, is in doubt
abbrev pub place_in_doubt : Entry
place_in_doubt = entry_with settings_power_up.place 0 (record { place = false; mask = true; divisor = true; gate = (entry_power_up Gate).known.gate; drive = (entry_power_up Gate).known.drive })

-- a node that was given its address and nothing else
abbrev pub addressed : ℕ → Entry
addressed k = entry_with (given_place k) 0 (known_but true true true)

-- a session of two nodes: how far the walk is, what waits, the two entries and the further 29
abbrev pub pair : ℕ → Exchange → Entry → Entry → List Entry → Session
pair walk x first second rest = record { started = true; n = 2; walk = walk; exchange = x; entries = first ∷ second ∷ rest }

-- two nodes with no exchange open, as the record shows them
pub record TwoNodes : Type 0 where
  pub walk : ℕ
  pub first : Entry
  pub second : Entry

abbrev pub shown : TwoNodes → List Entry → Session
shown r rest = pair r.walk Idle r.first r.second rest

-- "n = 2, ready"
abbrev pub ready : Entry → Entry → TwoNodes
ready first second = record { walk = 2; first = first; second = second }

-- an example: a command, where it goes, and its packet; some bytes, and the number that reading them gives; some bytes, the address and command that they read as, and where the packet ends;
-- a record, a course of events, the numbers that it gives and the record that it comes to
pub data Example : Type 0 where
  packet : Address → Command → List ℕ → Example
  number : List ℕ → ℕ → Example
  reading : List ℕ → Address → Command → ℕ → Example
  course : TwoNodes → List Event → List ℕ → TwoNodes → Example

-- a packet is built, from the command and from its parts, at the start of whatever buffer is lent, and reads as that command, to its last byte
pub record Packets (to : Address) (c : Command) (bytes : List ℕ) : Type 0 where
  pub built : (out : List ℕ) → codec_build to c out ≡ written bytes out
  pub packed : (out : List ℕ) → build_of (byte_of to) (code_of c) (own_data c) out ≡ written bytes out
  pub reads : ReadsAs Gate bytes to c (length bytes)

-- what an example says, whatever the further 29 entries are
abbrev pub Holds : List Entry → Example → Type 0
Holds rest (packet to c bytes) = Packets to c bytes
Holds rest (number bytes n) = number_by (read_of bytes) ≡ n
Holds rest (reading bytes to c end) = ReadsAs Gate bytes to c end
Holds rest (course r es numbers t) = ran es (shown r rest) ≡ record { answer = numbers; left = shown t rest }

-- every example of a table holds
abbrev pub Hold : List Entry → List Example → Type 0
Hold rest [] = Unit {0}
Hold rest (e ∷ es) = Holds rest e × Hold rest es
