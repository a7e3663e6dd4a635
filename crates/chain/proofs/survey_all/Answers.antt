-- The node that replies is read out of the table.
use Rattle.chain.proofs.Seeing.{survey_some}
use Rattle.chain.proofs.survey_all.Goals as goal

pub returns-in-Some : goal.returns-in-Some
returns-in-Some c = survey_some _ _ _ _ _ _ _ _ _ c.loop-n.invariant c.loop-n-test.false c.plan_of-plan.ensures c.speaker.ensures c.in-Some.is c.get.ensures.lookup c.copied-speaker.ensures
