-- The numerals, and their count.
use Rattle.sheet.proofs.Gathers.{counted_so}
use Rattle.sheet.proofs.line.read_counted.Goals as goal

pub returns : goal.returns
returns c = search (counted_so, c.in_ok-n.was)
