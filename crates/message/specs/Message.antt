-- Document 01, "The node": what a packet says to a node that it is meant for, and whether it is answered.
use Rattle.std.specs.Prelude.{Bool, true, cond, not, Option, Some, None}
use Rattle.wire.specs.declared.address.Address.{Address}
use Rattle.wire.specs.declared.address.Address.TheVariants as address
use Rattle.wire.specs.declared.kind.Kind.{Kind}
use Rattle.wire.specs.declared.kind.Kind.TheVariants as kind
use Rattle.command.specs.declared.Command.{Command}
use Rattle.command.specs.Role.{role_of, is_pacing, is_reset}
use Rattle.message.specs.declared.Message.{Message}
use Rattle.message.specs.declared.Message.TheVariants.{Intact, Other, Spoilt}
use Rattle.message.specs.declared.Messages.{Messages}

-- document 02, request 7: of Set Baud Rate "a node acts on it only when it came to its group"
abbrev pub is_taken : Address → Command → Bool
is_taken (address.Individual i) c = not (is_pacing (role_of c))
is_taken (address.Group g) c = true

-- by its reading, the address that it came to, and its sum
abbrev pub message_by : Option Command → Address → Message
message_by (Some c) to = cond (is_taken to c) (Intact c) Other
message_by None to = Other

abbrev pub message_of : Option Command → Address → Bool → Message
message_of r to intact = cond intact (message_by r to) Spoilt

-- "Hard Reset, with count 0, .. sends no reply"; "Wrong sum: .. also for Hard Reset"
abbrev pub is_answered : Message → Bool
is_answered (Intact c) = not (is_reset (role_of c))
is_answered Other = true
is_answered Spoilt = true

-- document 02, request 6: to either kind of node, by what it reads; a sum is right or wrong for both
abbrev pub messages_of : Option Command → Option Command → Address → Bool → Messages
messages_of gate drive to intact = record { gate = message_of gate to intact; drive = message_of drive to intact }

-- to a node of this kind
abbrev pub message_to : Kind → Messages → Message
message_to kind.Gate m = m.gate
message_to kind.Drive m = m.drive
