use borrow.Author.Rules.{rules}
use Rattle.capture.proofs.Ends.{end_past, reaching_start, reaching_next, reaching_gap, reaching_end}
use Rattle.capture.proofs.packet_end.Goals as goal

pub returns-then-times-at : goal.returns-then-times-at
returns-then-times-at c = search end_past

pub loop-i-init : goal.loop-i-init
loop-i-init c = search reaching_start

pub returns-then-is_gap : goal.returns-then-is_gap
returns-then-is_gap c = search reaching_gap

pub loop-i-preserved : goal.loop-i-preserved
loop-i-preserved c = search reaching_next

pub returns : goal.returns
returns c = search (reaching_end, rules)
