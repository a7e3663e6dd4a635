-- A second result that meets a contract is equal to the first, for each public function.
use mathlib.Core.Path.{sym, ◌∙◌}
use Rattle.wire.proofs.OneResult.{OneResult}
use Rattle.reports.proofs.report.Reads as report
use Rattle.reports.proofs.silence.Reads as silence

pub report_unique : OneResult report.Post
report_unique κs a r r' s s' p q = p.answer ∙ sym q.answer

pub silence_unique : OneResult silence.Post
silence_unique κs a r r' s s' p q = p.answer ∙ sym q.answer
