-- A second result that meets a contract is equal to the first, for each public function.
use mathlib.Core.Path.{sym, ◌∙◌}
use Rattle.wire.proofs.OneResult.{OneResult}
use Rattle.layout.proofs.nodes.are_nodes.Reads as are-nodes
use Rattle.layout.proofs.nodes.nodes_length.Reads as nodes-length
use Rattle.layout.proofs.nodes.read_nodes.Reads as read-nodes
use Rattle.layout.proofs.nodes.put_nodes.Reads as put-nodes
use Rattle.layout.proofs.entries.are_entries.Reads as are-entries
use Rattle.layout.proofs.entries.read_entries.Reads as read-entries
use Rattle.layout.proofs.entries.put_entries.Reads as put_entries

pub are_nodes_unique : OneResult are-nodes.Post
are_nodes_unique κs a r r' s s' p q = p ∙ sym q

pub nodes_length_unique : OneResult nodes-length.Post
nodes_length_unique κs a r r' s s' p q = p ∙ sym q

pub read_nodes_unique : OneResult read-nodes.Post
read_nodes_unique κs a r r' s s' p q = p ∙ sym q

pub are_entries_unique : OneResult are-entries.Post
are_entries_unique κs a r r' s s' p q = p ∙ sym q

pub read_entries_unique : OneResult read-entries.Post
read_entries_unique κs a r r' s s' p q = p ∙ sym q

pub put_nodes_unique : OneResult put-nodes.Post
put_nodes_unique κs a r r' s s' p q = p ∙ sym q

pub put_entries_unique : OneResult put_entries.Post
put_entries_unique κs a r r' s s' p q = p ∙ sym q
