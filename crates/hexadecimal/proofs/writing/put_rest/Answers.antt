use Rattle.hexadecimal.proofs.Puts.{rest_next, rest_done}
use Rattle.hexadecimal.proofs.writing.put_rest.Goals as goal

pub loop-i-preserved : goal.loop-i-preserved
loop-i-preserved c = search rest_next

pub returns : goal.returns
returns c = search rest_done
