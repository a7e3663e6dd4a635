-- Invariant: what the looks at the entries that are left will say, and how many bytes they have, is the answer.
use Rattle.std.proofs.Common.{◌≡◌, ◌+◌, ◌-◌, ◌*◌, ◌≤◌, drop}
use Rattle.fields.specs.Record.{records_length}
use Rattle.layout.specs.Entries.{entry_length}
use Rattle.layout.proofs.Known.{Looking}
use Rattle.layout.proofs.entries.are_entries.Given as goal

abbrev pub invariant-loop : goal.invariant-loop
invariant-loop l = (l.at ≤ 50 * l.counter) × Looking l.s l.counter l.at × (l.at + records_length entry_length (31 - l.counter) (drop l.at l.s) ≡ records_length entry_length 31 l.s)
