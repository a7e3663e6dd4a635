use Rattle.std.proofs.Common.{◌≡◌, ◌∙◌, List, ℕ, length, ap, refl, sym, subst, arith}
use Rattle.buffer.proofs.Appends.{Going, going_start}
use Rattle.text.specs.Lines.{lines_of}
use Rattle.text.specs.Each.{lines_left}
use Rattle.text.proofs.Parts.{lines_few}
use Rattle.script.specs.Bench.{run_of}
use Rattle.script.proofs.Playing.{run_next, run_near, run_long, run_done}
use Rattle.script.proofs.rehearsal.run.Goals as goal

pub loop-line-init : goal.loop-line-init
loop-line-init c =
    let e : lines_left c.into_iter-line-iterator.result ≡ lines_of c.args.packets.now = ap lines_left c.into_iter-line-iterator.ensures.into_iter_gives ∙ c.of-line-items.ensures in (
      omega (arith, lines_few c.args.packets.now, ap (λ (x : List (List ℕ)). length x) e),
      refl,
      subst (λ (x : List (List ℕ)). Going (run_of c.args.table x) 0 c.args.out.now (run_of c.args.table (lines_of c.args.packets.now)) c.args.out.now) (sym e) going_start,
    )

pub loop-line-preserved : goal.loop-line-preserved
loop-line-preserved c =
    let l = c.loop-line in
    let next = c.in-Some.ensures.steps in (
      run_near _ _ _ _ _ _ _ _ _ c.play-s.ensures next l.invariant.0,
      run_long _ _ _ _ _ _ c.play-s.ensures l.invariant.1,
      run_next _ _ _ next _ _ _ _ _ _ _ c.play-s.ensures l.invariant.2,
    )

pub returns : goal.returns
returns c = run_done _ _ _ _ _ _ c.in-None.ensures.steps.0 c.loop-line.invariant.2
