-- The invariant: what is put, and then what the nodes that are left will give, is the answer.
use Rattle.std.proofs.Common.{◌≡◌, drop}
use Rattle.fields.specs.Record.{put_each}
use Rattle.layout.specs.Nodes.{put_node}
use Rattle.layout.proofs.nodes.put_nodes.Given as goal

abbrev pub invariant-loop-n : goal.invariant-loop-n
invariant-loop-n l = put_each put_node l.all (drop l.n-index l.n-items) ≡ put_each put_node l.fn.a l.n-items
