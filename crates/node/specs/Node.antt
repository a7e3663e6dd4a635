-- Document 01, "The node", and document 02, request 6: what a node holds besides its settings, its power-up state, what acting makes of it, and what a packet does.
use Rattle.std.specs.Prelude.{ℕ, Bool, true, false, cond, ◌||◌, leb}
use Rattle.wire.specs.Kind.{is_gate}
use Rattle.wire.specs.declared.kind.Kind.{Kind}
use Rattle.wire.specs.declared.kind.Kind.TheVariants.{Gate, Drive}
use Rattle.command.specs.declared.Command.{Command}
use Rattle.command.specs.declared.Role.{Role}
use Rattle.command.specs.declared.Role.TheVariants.{Plain, Places, Paces, Masks, Captures, Zeroes, Idles, Resets}
use Rattle.command.specs.Role.{role_of}
use Rattle.message.specs.declared.Message.{Message}
use Rattle.message.specs.declared.Message.TheVariants.{Intact, Other, Spoilt}
use Rattle.node.specs.declared.state.Bench.{Bench}
use Rattle.node.specs.declared.state.Captured.{Captured}
use Rattle.node.specs.declared.state.Node.{Node}
use Rattle.node.specs.declared.state.Shown.{Shown}
use Rattle.node.specs.Effect.{settings_power_up, own_after}

-- captured at power-up: 0
abbrev pub nothing : Captured
nothing = record { counter = 0; inputs = 0 }

-- bench values 0
abbrev pub bench_blank : Bench
bench_blank = record { counter = 0; home = 0; inputs = 0; velocity = 0; error = 0; analog0 = 0; analog1 = 0; analog2 = 0; ad = 0; auxiliary = 0; id = 0; version = 0 }

-- the power-up state; "bench values stay", a drive's position is 0
abbrev pub power_up : Kind → Bench → Node
power_up k b = record { settings = settings_power_up; bench = b; captured = nothing; position = 0; addressed = false; kind = k }

-- the LS-173AP manual: an individual address is 0x01 to 0x7F
abbrev pub does_heed : Kind → Role → Bool
does_heed k Plain = true
does_heed k (Places p) = is_gate k || leb 1 p.address.0
does_heed k (Paces d) = true
does_heed k (Masks m) = true
does_heed k Captures = true
does_heed k Zeroes = true
does_heed k Idles = true
does_heed k Resets = true

-- "The node is addressed from then on", until a Hard Reset
abbrev pub addressed_after : Role → Bool → Bool
addressed_after Plain b = b
addressed_after (Places p) b = true
addressed_after (Paces d) b = b
addressed_after (Masks m) b = b
addressed_after Captures b = b
addressed_after Zeroes b = b
addressed_after Idles b = b
addressed_after Resets b = false

-- "Synch Input copies inputs and counter to the captured ones"
abbrev pub captured_after : Role → Bench → Captured → Captured
captured_after Plain b k = k
captured_after (Places p) b k = k
captured_after (Paces d) b k = k
captured_after (Masks m) b k = k
captured_after Captures b k = record { counter = b.counter; inputs = b.inputs }
captured_after Zeroes b k = k
captured_after Idles b k = k
captured_after Resets b k = nothing

-- "Reset Position and Hard Reset zero the position"
abbrev pub position_after : Role → ℕ → ℕ
position_after Plain p = p
position_after (Places q) p = p
position_after (Paces d) p = p
position_after (Masks m) p = p
position_after Captures p = p
position_after Zeroes p = 0
position_after Idles p = p
position_after Resets p = 0

-- the node after a command, as one of kind k takes it: captured values are a gate's, a position is a drive's
abbrev pub act_as : Kind → Command → Node → Node
act_as k c n = record {
  settings = own_after k c n.settings;
  bench = n.bench;
  captured = cond (is_gate k) (captured_after (role_of c) n.bench n.captured) n.captured;
  position = cond (is_gate k) n.position (position_after (role_of c) n.position);
  addressed = addressed_after (role_of c) n.addressed;
  kind = n.kind;
}

-- "Others .. are replied to as a Nop is and change nothing"; "Wrong sum: nothing changes"
abbrev pub take_as : Kind → Message → Node → Node
take_as k (Intact c) n = cond (does_heed k (role_of c)) (act_as k c n) n
take_as k Other n = n
take_as k Spoilt n = n

-- as a gate takes it, and as a drive
abbrev pub take_gate : Message → Node → Node
take_gate h n = take_as Gate h n

abbrev pub take_drive : Message → Node → Node
take_drive h n = take_as Drive h n

-- a node takes a packet as its kind does
abbrev pub take_of : Message → Node → Node
take_of h n = take_as n.kind h n

-- the mask that it then holds
abbrev pub mask_after : Message → Node → ℕ
mask_after h n = (take_of h n).settings.mask

-- what its status items are read off
abbrev pub shown_of : Node → Shown
shown_of n = record { bench = n.bench; captured = n.captured; position = n.position; kind = n.kind }
