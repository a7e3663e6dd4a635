-- Node by node.
use Rattle.std.proofs.Common.{◌≡◌, ℕ, List, length, take, rules, ap, ◌∙◌}
use Rattle.std.proofs.lemmas.List.{take_min}
use Prim.Native.Nat.{min}
use Rattle.fields.specs.Record.{put_each}
use Rattle.fields.proofs.Turns.{one_put, all_put}
use Rattle.node.specs.declared.state.Node.{Node}
use Rattle.layout.specs.Nodes.{put_node, put_nodes}
use Rattle.layout.proofs.nodes.put_nodes.Goals as goal

-- a count past the array shows all of it
shown : (m n : ℕ) (l : List Node) → length l ≡ 33 → m ≡ min n 33 → take m l ≡ take n l
shown m n l h e = let t : take (min n 33) l ≡ take n l = rw h at (take_min n l) in rw e t

pub loop-n-preserved : goal.loop-n-preserved
loop-n-preserved c = search (one_put, rules)

pub returns : goal.returns
unfolding put_nodes
returns c =
    all_put put_node (take c.min.result c.args.nodes) _ _ _ c.loop-n.invariant c.loop-n-test.false
    ∙ ap (put_each put_node c.args.a) (shown c.min.result c.args.count c.args.nodes (search rules) c.min.ensures)
