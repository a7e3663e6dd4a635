-- What the exits of the readers need, in the form in which the code gives it.
use Prim.Native.Nat.{ℕ, ◌+◌, ◌-◌, ◌<◌, ◌≤◌}
use mathlib.Core.Bool.{false}
use mathlib.Core.List.{List}
use mathlib.Core.Path.{◌≡◌, ap, ◌∙◌}
use native.Mathlib.Nat.{sub-zero, zero-add}
use native.Mathlib.Omega.{arith}
use lib.ListN.{length, drop, set}
use borrow.Author.Tests.{lt-leb, le-leb}
use Rattle.fields.specs.Record.{records_from, records_length, all_are}
use Rattle.fields.proofs.Turns.{Reading, one_read, all_read, all_long}
use Rattle.node.specs.declared.state.Node.{Node}
use Rattle.layout.specs.Nodes.{node_length, is_node, are_nodes, nodes_length, read_node, read_nodes}

-- where the looks at all records start, and what is refused before
pub nodes_many : (s : List ℕ) (n : ℕ) → 33 < n → false ≡ are_nodes s n
unfolding are_nodes
nodes_many s n h = rw (lt-leb n 33 h)

pub nodes_start : (s : List ℕ) (n : ℕ) → n ≤ 33 → all_are is_node (records_from node_length (n - 0) (drop 0 s)) ≡ are_nodes s n
unfolding are_nodes
nodes_start s n h = rw (le-leb n 33 h, sub-zero n)

pub long_many : (s : List ℕ) (n : ℕ) → 33 < n → 0 ≡ nodes_length s n
unfolding nodes_length
long_many s n h = rw (lt-leb n 33 h)

pub long_start : (s : List ℕ) (n : ℕ) → 0 + records_length node_length (n - 0) (drop 0 s) ≡ records_length node_length n s
long_start s n = zero-add (records_length node_length (n - 0) s) ∙ ap (λ (m : ℕ). records_length node_length m s) (sub-zero n)

pub long_end : (s : List ℕ) (n i at : ℕ) → n ≤ 33 → at + records_length node_length (n - i) (drop at s) ≡ records_length node_length n s → n ≤ i → at ≡ nodes_length s n
unfolding nodes_length
long_end s n i at h g l = rw (le-leb n 33 h) (all_long node_length i n at s g l)

-- and the reading of all records
pub node_more : (s r : List ℕ) (l : List Node) (i at k : ℕ) (n : Node) → Reading node_length read_node 33 s l i at → i < 33 → length l ≡ 33 → r ≡ drop at s → n ≡ read_node r
    → k ≡ node_length r → Reading node_length read_node 33 s (set l i n) (i + 1) (at + k)
node_more s r l i at k n h lt e f g m = one_read node_length read_node 33 s r l i at k n h lt (omega arith) f g m

pub nodes_end : (s : List ℕ) (l : List Node) (i at : ℕ) → Reading node_length read_node 33 s l i at → length l ≡ 33 → 33 ≤ i → l ≡ read_nodes s
unfolding read_nodes
nodes_end s l i at h e le = all_read node_length read_node 33 s l i at h le (omega arith)
