-- What is received, surveyed and decided, and the nodes that act, are the delivery.
use Rattle.survey.proofs.Joining.{joined}
use Rattle.chain.proofs.deliver.Goals as goal

pub returns : goal.returns
returns c =
    joined c.args.table.now c.args.at c.args.packet.now c.args.reply.now _ _ _ _ _ c.receive-incoming.ensures c.survey_all.ensures c.decide-decided.ensures c.act_all.ensures
