-- A turn leaves the rest to do, by the node's kind.
use Rattle.chain.proofs.Acting.{gate_takes, drive_takes, none_left, none_there, one_less, one_done}
use Rattle.chain.proofs.act_all.Goals as goal
use Rattle.chain.proofs.act_all.Goals.{then-is_gate, else-is_gate}

pub returns-then-table-i : goal.returns-then-table-i
returns-then-table-i c = search none_there

pub loop-i-smaller : goal.loop-i-smaller
loop-i-smaller c = search one_less

pub loop-i-preserved : goal.loop-i-preserved
loop-i-preserved c = (
  elim c.if-is_gate.branch [
    | then-is_gate w ↦
        one_done _ _ _ c.loop-i.rest _ c.first.ensures c.loop-i.invariant.0 _ c.in-Some.is _ _ _ _ c.loop-i.invariant.1 c.if-table-i.false c.without_first-rest.ensures w.table-is
        (gate_takes c.args.decided.messages _ _ _ c.is_gate.ensures w.if-is_gate.true w.take_gate.ensures)
    | else-is_gate w ↦
        one_done _ _ _ c.loop-i.rest _ c.first.ensures c.loop-i.invariant.0 _ c.in-Some.is _ _ _ _ c.loop-i.invariant.1 c.if-table-i.false c.without_first-rest.ensures w.table-is
        (drive_takes c.args.decided.messages _ _ _ c.is_gate.ensures w.if-is_gate.false w.take_drive.ensures)
  ],
  c.without_first-rest.type_inv,
)

pub returns : goal.returns
returns c = search none_left
