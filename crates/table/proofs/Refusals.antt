-- Any number but 0 and 13 leaves the owner's table and the buffer as they stood.
use Prim.Native.Nat.{ℕ}
use mathlib.Core.List.{List}
use mathlib.Core.Path.{◌≡◌, ap, ◌∙◌}
use lib.ListN.{take-append-drop}
use Rattle.wire.specs.Numbers.{done, collision}
use Rattle.node.specs.declared.state.Node.{Node}
use Rattle.survey.proofs.Refusals as survey
use Rattle.table.specs.declared.Table.{Table}
use Rattle.table.specs.Table.{nodes_of, with_nodes, delivered_number, table_deliver}

pub deliver_spares : (t : Table) (at : ℕ) (p out : List ℕ)
    → (delivered_number (table_deliver t at p out).answer ≡ done → ⊥) → (delivered_number (table_deliver t at p out).answer ≡ collision → ⊥)
    → ((table_deliver t at p out).answer.table ≡ t) × ((table_deliver t at p out).left ≡ out)
unfolding table_deliver
deliver_spares t at p out d k =
    let s = survey.deliver_spares (nodes_of t) at p out d k in
    let whole = take-append-drop t.count t.nodes in
    (ap (λ (ns : List Node). with_nodes t ns) s.0 ∙ ap (λ (l : List Node). record { nodes = l; count = t.count }) whole, s.1)
