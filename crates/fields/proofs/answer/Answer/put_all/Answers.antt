-- Byte by byte.
use Rattle.fields.proofs.Answers.{all_more, all_put}
use Rattle.fields.proofs.answer.Answer.put_all.Goals as goal

pub loop-b-preserved : goal.loop-b-preserved
loop-b-preserved c = search all_more

pub returns : goal.returns
returns c = search all_put
