-- What some bytes of the command line say to a kind of node, all of them.
use Rattle.std.specs.Prelude.{ℕ, cond, List, ltb, length, Result, Ok, Err, Option, Some, None}
use Rattle.wire.specs.declared.refusal.Refusal.{Refusal}
use Rattle.packet.specs.declared.Framed.{Framed}
use Rattle.wire.specs.declared.address.Address.{Address}
use Rattle.wire.specs.declared.kind.Kind.{Kind}
use Rattle.wire.specs.declared.refusal.Refusal.TheVariants.{Long}
use Rattle.packet.specs.Packet.{read_of, data_part}
use Rattle.codec.specs.Reading.{codec_read}
use Rattle.calls.specs.declared.Spoken.{Spoken}
use Rattle.command.specs.declared.Command.{Command}

-- a command to an address, or another one
abbrev pub spoken_to : Address → Option Command → Option Spoken
spoken_to to (Some c) = Some (record { to = to; command = c })
spoken_to to None = None

-- a command to an address is what some bytes say
abbrev pub says : Address → Command → Result (Option Spoken) Refusal
says to c = Ok (Some (record { to = to; command = c }))

-- a packet that reads is all of the bytes, or some are left over, 3
abbrev pub spoken_as : Kind → List ℕ → Result Framed Refusal → Result (Option Spoken) Refusal
spoken_as kind p (Ok f) = cond (ltb f.end (length p)) (Err Long) (Ok (spoken_to f.address (codec_read kind f.command (data_part p))))
spoken_as kind p (Err why) = Err why

-- what bytes between two gaps say, all of them: "Synch Output and Start Motion share a byte and are two commands here"
unfoldable pub understand_of : Kind → List ℕ → Result (Option Spoken) Refusal
understand_of kind p = spoken_as kind p (read_of p)
