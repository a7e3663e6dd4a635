-- ORDER: "kind target FAMILY command-byte data..", a command with whom it is for.
use Rattle.std.specs.Prelude.{ℕ, ◌+◌, ◌/◌, ◌%◌, Bool, false, cond, not, ◌||◌, List, [], ◌∷◌, ltb, eqb, length, drop, get_or, replicate, Option, Some, None}
use Rattle.wire.specs.Address.{byte_of}
use Rattle.wire.specs.declared.address.Address.{Address}
use Rattle.wire.specs.declared.address.Address.TheVariants as address
use Rattle.wire.specs.declared.kind.Kind.TheVariants.{Gate}
use Rattle.buffer.specs.Buffer.{written}
use Rattle.packet.specs.Packet.{data_part}
use Rattle.codec.specs.Reading.{codec_read}
use Rattle.codec.specs.Own.{drive_own}
use Rattle.codec.specs.Build.{packet_to}
use Rattle.command.specs.Owner.{has}
use Rattle.command.specs.Role.{role_of, is_pacing}
use Rattle.command.specs.declared.Command.{Command}
use Rattle.command.specs.declared.Command.TheVariants.{Nop}
use Rattle.fields.specs.declared.answer.Answer.{Answer}
use Rattle.fields.specs.Field.{fields_byte}
use Rattle.fields.specs.Answer.{answer_put_all}

-- how many data bytes "the command byte with its count" says
abbrev pub data_count : List ℕ → ℕ
data_count s = fields_byte s 3 / 16

-- by its FAMILY "00, as the LS-773 has it ..; 01, as the LS-173AP has it, only its own five"; "a value off its range .. the call's to refuse"
unfoldable pub read_family : ℕ → ℕ → List ℕ → Option Command
read_family f k d = cond (eqb f 0) (codec_read Gate k d) (cond (eqb f 1) (drive_own k d) None)

-- the command of its family, of the command byte and of what stands behind it
abbrev pub order_command : List ℕ → Option Command
order_command s = read_family (fields_byte s 2) (fields_byte s 3 % 16) (drop 4 s)

-- the command, where s has four bytes and as many data bytes, and its kind is 00 or 01
unfoldable pub read_order : List ℕ → Option Command
read_order s =
    cond (ltb (length s) 4) None
    (cond (eqb (length s) (4 + data_count s)) (cond (ltb 1 (fields_byte s 0)) None (order_command s)) None)

-- a command was read, and of a Set Baud Rate the kind is "01 (a group) only"
abbrev pub is_ordered : ℕ → Option Command → Bool
is_ordered k (Some c) = not (is_pacing (role_of c)) || eqb k 1
is_ordered k None = false

-- s is an order
abbrev pub is_order : List ℕ → Bool
is_order s = is_ordered (fields_byte s 0) (read_order s)

-- the command that was read; Nop for none
abbrev pub known_of : Option Command → Command
known_of (Some c) = c
known_of None = Nop

-- the command of an order
abbrev pub read_command : List ℕ → Command
read_command s = known_of (read_order s)

-- "a node (kind 00) or a group (kind 01)"
unfoldable pub read_target : List ℕ → Address
read_target s =
    cond (ltb (fields_byte s 0) 1) (address.Individual (record { 0 = fields_byte s 1 })) (address.Group (record { 0 = fields_byte s 1 }))

-- 00 for a node, 01 for a group
abbrev pub target_kind : Address → ℕ
target_kind (address.Individual i) = 0
target_kind (address.Group g) = 1

-- 01 for what only the LS-173AP has
abbrev pub family_of : Command → ℕ
family_of c = cond (has Gate c) 0 1

-- the packet of a command: "the command byte with its count as in a packet", whoever it is for
abbrev pub packet_shown : Command → List ℕ
packet_shown c = (written (packet_to 0 c) (replicate 19 0)).left

-- an order more: whom it is for, the family, the command byte and the data bytes
unfoldable pub put_order : Answer → Address → Command → Answer
put_order a to c =
    answer_put_all (answer_put_all a (target_kind to ∷ byte_of to ∷ family_of c ∷ get_or (packet_shown c) 2 0 ∷ [])) (data_part (packet_shown c))
