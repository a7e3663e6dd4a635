-- The invariant: what is put, and then what the entries that are left will give, is the answer.
use Rattle.std.proofs.Common.{◌≡◌, drop}
use Rattle.fields.specs.Record.{put_each}
use Rattle.layout.specs.Entries.{put_entry, put_entries}
use Rattle.layout.proofs.entries.put_entries.Given as goal

abbrev pub invariant-loop-e : goal.invariant-loop-e
invariant-loop-e l = put_each put_entry l.all (drop l.e-index l.e-items) ≡ put_each put_entry l.fn.a l.e-items
