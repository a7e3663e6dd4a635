use Rattle.std.proofs.Common.{◌≡◌, ◌∙◌, List, ℕ, length, ap, refl, arith}
use Rattle.text.specs.Lines.{lines_of}
use Rattle.text.specs.Each.{lines_left}
use Rattle.text.proofs.Parts.{lines_few}
use Rattle.sheet.specs.Sheet.{packets_in}
use Rattle.sheet.specs.Reading.{import_behind}
use Rattle.sheet.proofs.Imports.{answer_fault, answer_on, answer_short, answer_bytes}
use Rattle.sheet.proofs.importing.import_answer.Goals as goal

pub loop-line-init : goal.loop-line-init
loop-line-init c =
    let e : lines_left c.into_iter-line-iterator.result ≡ lines_of c.args.sheet.now = ap lines_left c.into_iter-line-iterator.ensures.into_iter_gives ∙ c.of-line-items.ensures in (
      omega (arith, lines_few c.args.sheet.now, ap (λ (x : List (List ℕ)). length x) e),
      omega arith,
      refl,
      ap (λ (x : List (List ℕ)). import_behind 0 0 c.args.room (packets_in x)) e,
    )

pub returns-in-None-read_line : goal.returns-in-None-read_line
returns-in-None-read_line c = answer_fault _ _ _ _ _ _ _ _ _ _ c.in-Some.ensures.steps c.read_line.ensures c.loop-line.invariant.3 c.in-None-read_line.is

pub loop-line-preserved : goal.loop-line-preserved
loop-line-preserved c =
    let l = c.loop-line in
    let next = c.in-Some.ensures.steps in (
      omega (arith, l.invariant.0, ap (λ (x : List (List ℕ)). length x) next),
      omega (arith, l.invariant.1, c.data_count.ensures),
      c.read_line.array_long,
      answer_on _ _ _ _ _ _ _ _ _ _ next c.read_line.ensures l.invariant.3 _ c.in-Some-read_line.is _ l.invariant.2 c.data_count.ensures,
    )

pub returns-then-room-total : goal.returns-then-room-total
returns-then-room-total c = answer_short _ _ _ _ _ c.in-None.ensures.steps.0 c.loop-line.invariant.3 (omega arith)

pub returns : goal.returns
returns c = answer_bytes _ _ _ _ _ c.in-None.ensures.steps.0 c.loop-line.invariant.3 (omega arith)
