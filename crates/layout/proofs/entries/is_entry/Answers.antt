use Rattle.std.proofs.Common.{rules}
use Rattle.wire.proofs.Tests.{tests}
use Rattle.layout.specs.Entries.{is_entry}
use Rattle.layout.proofs.entries.is_entry.Goals as goal

pub returns-then-byte-lt2 : goal.returns-then-byte-lt2
unfolding is_entry
returns-then-byte-lt2 c = search (tests, rules)

pub returns-else-byte-lt2 : goal.returns-else-byte-lt2
unfolding is_entry
returns-else-byte-lt2 c = search (tests, rules)
