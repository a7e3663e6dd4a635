-- Invariant: what the looks at the records that are left will say is the answer.
use Rattle.std.proofs.Common.{◌≡◌, ◌-◌, ◌*◌, ◌≤◌, drop}
use Rattle.fields.specs.Record.{records_from, all_are}
use Rattle.layout.specs.Nodes.{node_length, is_node, are_nodes}
use Rattle.layout.proofs.nodes.are_nodes.Given as goal

abbrev pub invariant-loop : goal.invariant-loop
invariant-loop l = (l.count ≤ 33) × (l.at ≤ 65 * l.counter) × (all_are is_node (records_from node_length (l.count - l.counter) (drop l.at l.s)) ≡ are_nodes l.s l.count)
