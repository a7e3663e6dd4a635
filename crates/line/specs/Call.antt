-- The host's calls that send, as demand 3's history has them.
use Rattle.std.specs.Prelude.{ℕ, Bool, false, List, get_or}
use Rattle.wire.specs.declared.address.Address.TheVariants as address
use Rattle.command.specs.declared.Command.TheVariants as command
use Rattle.command.specs.Role.{role_of, is_reset}
use Rattle.calls.specs.declared.Call.{Call}
use Rattle.calls.specs.declared.Call.TheVariants.{Next, Ask, Order, Regroup, SetBaudRate}
use Rattle.line.specs.History.{Sending, gives, asks, sends}

-- what was sent, read off the call and its packet p: the address that "next" gives is the first data byte, the node that "ask" asks is the address byte
abbrev pub what_of : Call → List ℕ → Sending
what_of Next p = gives (get_or p 3 0)
what_of Ask p = asks (get_or p 1 0)
what_of (Order to c) p = sends to c
what_of (Regroup i g leader) p = sends (address.Individual i) (command.SetAddress (record { address = i; group = g; leader = leader }))
what_of (SetBaudRate g d) p = sends (address.Group g) (command.SetBaudRate d)

-- a Hard Reset
abbrev pub resets : Call → Bool
resets Next = false
resets Ask = false
resets (Order to c) = is_reset (role_of c)
resets (Regroup i g leader) = false
resets (SetBaudRate g d) = false
