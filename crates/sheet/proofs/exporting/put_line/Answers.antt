-- The word, and the line of bytes behind it.
use Rattle.sheet.proofs.Exports.{line_put}
use Rattle.sheet.proofs.exporting.put_line.Goals as goal

pub returns : goal.returns
returns c = search line_put
