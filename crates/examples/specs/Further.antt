-- Document 01, "Examples": those without *, in the same form.
use Rattle.std.specs.Prelude.{true, false, List, [], ◌∷◌, ◌++◌, replicate}
use Rattle.wire.specs.declared.kind.Kind.TheVariants.{Gate}
use Rattle.command.specs.declared.Held.{Held}
use Rattle.command.specs.declared.Command.TheVariants.{SynchOutput, SetSynchOutput}
use Rattle.entry.specs.declared.Entry.{Entry}
use Rattle.entry.specs.Entry.{entry_power_up}
use Rattle.session.specs.Session.{node_at, given_place}
use Rattle.examples.specs.Example.{next, ask, order, regroup, silence, reply, known_but, entry_with, place_in_doubt, addressed, TwoNodes, ready, Example, number, course, Hold}
use Rattle.examples.specs.Starred.{fresh}

-- a held set
abbrev pub some_held : Held
some_held = record { outputs = 5; pwm = record { first = 1; second = 2 } }

-- node 1 leads 0x80; and node 2 is in it too
abbrev pub leads80 : Entry
leads80 = entry_with (record { address = record { 0 = 1 }; group = record { 0 = 0x80 }; leader = true }) 0 (known_but true true true)

abbrev pub joined80 : Entry
joined80 = entry_with (record { address = record { 0 = 2 }; group = record { 0 = 0x80 }; leader = false }) 0 (known_but true true true)

-- no address is given yet; address 1 is in doubt; address 1 is confirmed
abbrev pub up : TwoNodes
up = record { walk = 0; first = entry_power_up Gate; second = entry_power_up Gate }

abbrev pub unplaced : TwoNodes
unplaced = record { walk = 0; first = place_in_doubt; second = entry_power_up Gate }

abbrev pub confirmed1 : TwoNodes
confirmed1 = record { walk = 1; first = addressed 1; second = entry_power_up Gate }

abbrev pub others : List Example
others =
    -- "01 0E 0F: 2"
    number (0x01 ∷ 0x0E ∷ 0x0F ∷ []) 2 ∷
    -- "AA 00 F0, fifteen 00, F0: accepted"
    number ((0xAA ∷ 0x00 ∷ 0xF0 ∷ []) ++ replicate 15 0x00 ++ (0xF0 ∷ [])) 0 ∷
    -- "Held set to node 2 silent, Synch Output replied 00 00: held set, outputs, PWM pair in doubt"
    course fresh (order (node_at 2) (SetSynchOutput some_held) ∷ silence ∷ order (node_at 2) SynchOutput ∷ reply (0x00 ∷ 0x00 ∷ []) ∷ []) (0 ∷ 0 ∷ 0 ∷ 0 ∷ [])
    (ready (addressed 1) (entry_with (given_place 2) 0 (known_but false false false))) ∷
    -- "Node 1 leads 0x80: node 2 may join"
    course (ready leads80 (addressed 2)) (regroup (record { 0 = 2 }) (record { 0 = 0x80 }) false ∷ reply (0x00 ∷ 0x00 ∷ []) ∷ []) (0 ∷ 0 ∷ []) (ready leads80 joined80) ∷
    -- "but not lead, 11"
    course (ready leads80 (addressed 2)) (regroup (record { 0 = 2 }) (record { 0 = 0x80 }) true ∷ []) (11 ∷ []) (ready leads80 (addressed 2)) ∷
    -- "First 'next' silent: 'next' gives 9"
    course up (next ∷ silence ∷ next ∷ []) (0 ∷ 0 ∷ 9 ∷ []) unplaced ∷
    -- "'ask' replied 00 00 confirms address 1"
    course up (next ∷ silence ∷ ask ∷ reply (0x00 ∷ 0x00 ∷ []) ∷ []) (0 ∷ 0 ∷ 0 ∷ 0 ∷ []) confirmed1 ∷
    []

-- the statement
abbrev pub Further : List Entry → Type 0
Further rest = Hold rest others
