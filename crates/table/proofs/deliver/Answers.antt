-- The records that the count counts are lent, and the count stays.
use Rattle.table.proofs.Owner.{owned}
use Rattle.table.proofs.deliver.Goals as goal

pub returns : goal.returns
returns c = owned c.args.t c.min-n.result c.args.at c.args.packet.now c.args.reply.now _ _ _ c.well_formed.0.1.1.0.1.0.1 c.min-n.ensures c.deliver-answer.ensures
