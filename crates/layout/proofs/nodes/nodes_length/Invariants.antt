-- Invariant: the bytes of the records that are past, and then those of the ones that are left, are all.
use Rattle.std.proofs.Common.{◌≡◌, ◌+◌, ◌-◌, ◌*◌, ◌≤◌, drop}
use Rattle.fields.specs.Record.{records_length}
use Rattle.layout.specs.Nodes.{node_length}
use Rattle.layout.proofs.nodes.nodes_length.Given as goal

abbrev pub invariant-loop : goal.invariant-loop
invariant-loop l = (l.count ≤ 33) × (l.at ≤ 65 * l.counter) × (l.at + records_length node_length (l.count - l.counter) (drop l.at l.s) ≡ records_length node_length l.count l.s)
