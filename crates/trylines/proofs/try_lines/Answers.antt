use Rattle.std.proofs.Common.{◌≡◌, ◌∙◌, ap}
use Rattle.text.specs.Lines.{lines_of}
use Rattle.text.specs.Each.{lines_left}
use Rattle.trylines.specs.Trying.{try_lines}
use Rattle.trylines.proofs.Tries.{lines_on, lines_done}
use Rattle.trylines.proofs.try_lines.Goals as goal

pub loop-line-init : goal.loop-line-init
loop-line-init g c = ap (try_lines c.fresh-s.result) (ap lines_left c.into_iter-line-iterator.ensures.into_iter_gives ∙ c.of-line-items.ensures)

pub loop-line-preserved : goal.loop-line-preserved
loop-line-preserved g c = lines_on _ _ _ c.in-Some.ensures.steps _ _ _ c.in_ok-s.ensures c.loop-line.invariant

pub returns : goal.returns
returns g c = lines_done c.args.input.now _ _ _ c.in-None.ensures.steps.0 c.fresh-s.ensures c.loop-line.invariant
