-- Document 01, "Examples; those with * are proved together": one table, in the paper's order, with the example that document 02 changes.
use Rattle.std.specs.Prelude.{true, false, List, [], ◌∷◌}
use Rattle.wire.specs.declared.address.Address.TheVariants as address
use Rattle.command.specs.declared.Place.{Place}
use Rattle.command.specs.declared.Command.TheVariants.{SetAddress, ReadStatus, SynchOutput, SetOutputs, Nop}
use Rattle.entry.specs.declared.Entry.{Entry}
use Rattle.session.specs.Session.{node_at, given_place}
use Rattle.examples.specs.Example.{Event, order, silence, reply, known_but, entry_with, addressed, TwoNodes, ready, Example, packet, number, reading, course, Hold}

-- "Set Outputs 5 to node 2"
abbrev pub outputs5 : Event
outputs5 = order (node_at 2) (SetOutputs 5)

-- "n = 2, ready": both nodes were given their addresses
abbrev pub fresh : TwoNodes
fresh = ready (addressed 1) (addressed 2)

-- node 2 with "only its outputs in doubt"; and with outputs "known, 5"
abbrev pub doubtful : TwoNodes
doubtful = ready (addressed 1) (entry_with (given_place 2) 0 (known_but false true true))

abbrev pub known5 : TwoNodes
known5 = ready (addressed 1) (entry_with (given_place 2) 5 (known_but true true true))

-- node 3 as leader of 0x81
abbrev pub leads81 : Place
leads81 = record { address = record { 0 = 3 }; group = record { 0 = 0x81 }; leader = true }

abbrev pub table : List Example
table =
    -- "Nop to 1: AA 01 0E 0F"
    packet (node_at 1) Nop (0xAA ∷ 0x01 ∷ 0x0E ∷ 0x0F ∷ []) ∷
    -- "First address: AA 00 21 01 FF 21"
    packet (node_at 0x00) (SetAddress (given_place 1)) (0xAA ∷ 0x00 ∷ 0x21 ∷ 0x01 ∷ 0xFF ∷ 0x21 ∷ []) ∷
    -- "Read Status, mask 04: AA 01 13 04 18"
    packet (node_at 1) (ReadStatus 0x04) (0xAA ∷ 0x01 ∷ 0x13 ∷ 0x04 ∷ 0x18 ∷ []) ∷
    -- "Set Outputs, node 2, value 5: AA 02 26 05 00 2D"
    packet (node_at 2) (SetOutputs 5) (0xAA ∷ 0x02 ∷ 0x26 ∷ 0x05 ∷ 0x00 ∷ 0x2D ∷ []) ∷
    -- "Synch Output to group 0x80: AA 80 05 85"
    packet (address.Group (record { 0 = 0x80 })) SynchOutput (0xAA ∷ 0x80 ∷ 0x05 ∷ 0x85 ∷ []) ∷
    -- "Node 3 leads 0x81: AA 03 21 03 01 28"
    packet (node_at 3) (SetAddress leads81) (0xAA ∷ 0x03 ∷ 0x21 ∷ 0x03 ∷ 0x01 ∷ 0x28 ∷ []) ∷
    -- "AA 01 0E 10: 4"
    number (0xAA ∷ 0x01 ∷ 0x0E ∷ 0x10 ∷ []) 4 ∷
    -- "AA 01 13 04: 1"
    number (0xAA ∷ 0x01 ∷ 0x13 ∷ 0x04 ∷ []) 1 ∷
    -- "The example AA 01 0E 0F 00 becomes: read, ends at 4"
    reading (0xAA ∷ 0x01 ∷ 0x0E ∷ 0x0F ∷ 0x00 ∷ []) (node_at 1) Nop 4 ∷
    -- "Set Outputs 5 to node 2, silence: only its outputs in doubt"
    course fresh (outputs5 ∷ silence ∷ []) (0 ∷ 0 ∷ []) doubtful ∷
    -- "sent again, reply 00 00: known, 5"
    course fresh (outputs5 ∷ silence ∷ outputs5 ∷ reply (0x00 ∷ 0x00 ∷ []) ∷ []) (0 ∷ 0 ∷ 0 ∷ 0 ∷ []) known5 ∷
    -- "Reply 02 02: nothing changes"
    course fresh (outputs5 ∷ reply (0x02 ∷ 0x02 ∷ []) ∷ []) (0 ∷ 0 ∷ []) fresh ∷
    -- "Reply 02 03: silence"
    course fresh (outputs5 ∷ reply (0x02 ∷ 0x03 ∷ []) ∷ []) (0 ∷ 0 ∷ []) doubtful ∷
    []

-- the statement
abbrev pub Starred : List Entry → Type 0
Starred rest = Hold rest table
