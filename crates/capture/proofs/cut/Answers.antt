-- Each exit is one law on its bytes; its position is the slice's own.
use borrow.Author.Rules.{rules}
use Rattle.wire.proofs.Parts.{none_left}
use Rattle.capture.proofs.Cuts.{cut_past, cut_none, cut_rest, cut_all}
use Rattle.capture.proofs.cut.Goals as goal

pub returns-then-s-from : goal.returns-then-s-from
returns-then-s-from c = search (none_left, cut_past, rules)

pub returns-then-end-from : goal.returns-then-end-from
returns-then-end-from c = search (cut_none, rules)

pub returns-then-s-end : goal.returns-then-s-end
returns-then-s-end c = search (cut_rest, rules)

pub returns : goal.returns
returns c = search (cut_all, rules)
