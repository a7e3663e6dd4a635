-- Document 02, request 6: "Each node gets a kind": an LS-773 works gates, an LS-173AP drives a carousel.
use Rattle.std.specs.Prelude.{Bool, true, false}
use Rattle.wire.specs.declared.kind.Kind.{Kind}
use Rattle.wire.specs.declared.kind.Kind.TheVariants.{Gate, Drive}

-- an LS-773
abbrev pub is_gate : Kind → Bool
is_gate Gate = true
is_gate Drive = false
