-- The word, and what is behind it.
use Rattle.sheet.proofs.Gathers.{line_other, line_read}
use Rattle.sheet.proofs.line.read_line.Goals as goal

pub returns-then-starts_hex : goal.returns-then-starts_hex
returns-then-starts_hex c = search line_read

pub returns : goal.returns
returns c = search line_other
