use Rattle.std.proofs.Common.{rules}
use Rattle.tryrecording.proofs.Writes.{bytes_start, bytes_long, bytes_more, bytes_all}
use Rattle.tryrecording.proofs.writing.put_bytes.Goals as goal

pub loop-i-init : goal.loop-i-init
loop-i-init c = (search rules, search bytes_start)

pub loop-i-preserved : goal.loop-i-preserved
loop-i-preserved c = (search bytes_long, search bytes_more)

pub returns : goal.returns
returns c = search bytes_all
