-- By the most.
use Rattle.std.proofs.Common.{rules}
use Rattle.wire.proofs.Tests.{tests}
use Rattle.fields.specs.Lending.{room_field}
use Rattle.fields.proofs.read.room_field.Goals as goal

pub returns-in-0-to-255 : goal.returns-in-0-to-255
unfolding room_field
returns-in-0-to-255 c = search (tests, rules)

pub returns-in-256-to-65535 : goal.returns-in-256-to-65535
unfolding room_field
returns-in-256-to-65535 c = search (tests, rules)

pub returns-in_default : goal.returns-in_default
unfolding room_field
returns-in_default c = search (tests, rules)
