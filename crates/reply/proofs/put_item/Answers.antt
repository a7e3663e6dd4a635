use Rattle.std.proofs.Common.{refl, ◌∙◌, arith}
use Rattle.reply.proofs.Growing.{asked_room, none_yet, byte_more, all_written}
use Rattle.reply.proofs.put_item.Goals as goal

pub loop-i-init : goal.loop-i-init
loop-i-init c =
    let a = c.args in
    let w = c.if-not-wanted.false in
    (w, asked_room a.wanted a.count a.value a.end _ w c.requires, refl, none_yet a.out.now a.end a.count a.value _)

pub loop-i-preserved : goal.loop-i-preserved
loop-i-preserved c =
    let l = c.loop-i in
    let a = c.args in (
      l.invariant.0,
      l.invariant.1,
      refl,
      byte_more l.out a.end l.i a.count l.rest l.sum c.loop-i-test.true ∙ l.invariant.3,
    )

pub returns : goal.returns
returns c =
    let l = c.loop-i in
    let a = c.args in
    all_written a.wanted a.out.now l.out a.end l.i a.count a.value l.rest _ l.sum l.invariant.0 (omega arith) (omega arith) l.invariant.2 l.invariant.3
