-- Invariant: what is read, then what the rest will give, is the answer.
use Rattle.std.proofs.Common.{◌≡◌, ◌*◌, ◌≤◌, length}
use Rattle.fields.proofs.Turns.{Reading}
use Rattle.layout.specs.Entries.{entry_length, read_entry}
use Rattle.layout.proofs.entries.read_entries.Given as goal

abbrev pub invariant-loop-entry : goal.invariant-loop-entry
invariant-loop-entry l = (l.at ≤ 50 * l.entry-index) × (length l.entry-items ≡ 31) × Reading entry_length read_entry 31 l.s l.entry-items l.entry-index l.at
