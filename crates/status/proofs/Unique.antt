-- A second result that meets a contract is equal to the first, for each public function.
use mathlib.Core.Path.{sym, ◌∙◌}
use Rattle.wire.proofs.OneResult.{OneResult}
use Rattle.wire.proofs.Parts.{OnePart, one_part_lem}
use Rattle.status.proofs.counts.Reads as counts
use Rattle.status.proofs.read.Reads as read
use Rattle.status.proofs.items_part.Reads as items-part
use Rattle.status.proofs.judge.Reads as judge

pub counts_unique : OneResult counts.Post
counts_unique κs a r r' s s' p q = p ∙ sym q

pub read_unique : OneResult read.Post
read_unique κs a r r' s s' p q = p.answer ∙ sym q.answer

pub items_part_unique : OnePart items-part.Post
items_part_unique κs a r r' s s' p q = one_part_lem p q

pub judge_unique : OneResult judge.Post
judge_unique κs a r r' s s' p q = p ∙ sym q
