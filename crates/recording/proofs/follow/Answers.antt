use Rattle.recording.proofs.Stepping.{going_start, less_sent, less_answered, less_unawaited, going_sent, going_answered, going_unawaited, ends_foreign, ends_ended}
use Rattle.recording.proofs.follow.Goals as goal

pub loop-stage-init : goal.loop-stage-init
loop-stage-init c = search going_start

pub loop-stage-smaller-in-Sent : goal.loop-stage-smaller-in-Sent
loop-stage-smaller-in-Sent c = search less_sent

pub loop-stage-preserved-in-Sent : goal.loop-stage-preserved-in-Sent
loop-stage-preserved-in-Sent c = search going_sent

pub loop-stage-smaller-in-Answered : goal.loop-stage-smaller-in-Answered
loop-stage-smaller-in-Answered c = search less_answered

pub loop-stage-preserved-in-Answered : goal.loop-stage-preserved-in-Answered
loop-stage-preserved-in-Answered c = search going_answered

pub loop-stage-smaller : goal.loop-stage-smaller
loop-stage-smaller c = search less_unawaited

pub loop-stage-preserved : goal.loop-stage-preserved
loop-stage-preserved c = search going_unawaited

pub returns-in-Foreign : goal.returns-in-Foreign
returns-in-Foreign c = search ends_foreign

pub returns-in-End : goal.returns-in-End
returns-in-End c = search ends_ended
