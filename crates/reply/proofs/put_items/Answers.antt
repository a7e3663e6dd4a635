use Rattle.std.proofs.Common.{length, arith, rules, refl}
use Rattle.std.proofs.lemmas.List.{length_push}
use Rattle.std.proofs.lemmas.Slice.Zip.{zip_turn, zip_end}
use Rattle.status.specs.Status.{counts}
use Rattle.reply.specs.Items.{values_of}
use Rattle.reply.proofs.Growing.{passed_room, passed_one}
use Rattle.reply.proofs.Showing.{items_none, items_all}
use Rattle.reply.proofs.put_items.Goals as goal

pub loop-count-init : goal.loop-count-init
loop-count-init c = items_none _ c.args.x _ _ refl refl _ _ c.requires

pub put_item-at-requires : goal.put_item-at-requires
put_item-at-requires c =
    let l = c.loop-count in
    let t = zip_turn (counts c.args.x.kind) (values_of c.args.x) l.yielded _ _ c.next.new.self _ (search rules) (search rules) l.yielded_by _ c.in-Some.is c.next.ensures.steps in
    rw (t.2 0, t.3 0) (passed_room _ _ _ _ _ l.out _ _ (length l.yielded) (omega (arith, t.0, l.invariant.counted)) l.invariant)

pub loop-count-preserved : goal.loop-count-preserved
loop-count-preserved c =
    let l = c.loop-count in
    let t = zip_turn (counts c.args.x.kind) (values_of c.args.x) l.yielded _ _ c.next.new.self _ (search rules) (search rules) l.yielded_by _ c.in-Some.is c.next.ensures.steps in
    rw length_push (passed_one _ _ _ _ _ l.out _ _ (length l.yielded) (omega (arith, t.0, l.invariant.counted)) l.invariant _ _ (rw (t.2 0, t.3 0) at c.put_item-at.ensures))

pub returns : goal.returns
returns c =
    let l = c.loop-count in
    let t = zip_end (counts c.args.x.kind) (values_of c.args.x) l.yielded _ _ c.next.new.self _ (search rules) (search rules) l.yielded_by c.in-None.is c.next.ensures.steps in
    items_all _ c.args.x _ _ refl refl _ _ l.out _ _ (length l.yielded) (omega (arith, t, l.invariant.counted, l.invariant.valued)) l.invariant
