-- By what the packet did.
use Rattle.tryrecording.proofs.Shows.{event_sent, event_foreign, event_answered, event_unawaited, event_none}
use Rattle.tryrecording.proofs.steps.put_event_bytes.Goals as goal

pub returns-in-Sent : goal.returns-in-Sent
returns-in-Sent c = search event_sent

pub returns-in-Foreign : goal.returns-in-Foreign
returns-in-Foreign c = search event_foreign

pub returns-in-Answered : goal.returns-in-Answered
returns-in-Answered c = search event_answered

pub returns-in-Unawaited : goal.returns-in-Unawaited
returns-in-Unawaited c = search event_unawaited

pub returns-in-End : goal.returns-in-End
returns-in-End c = search event_none
