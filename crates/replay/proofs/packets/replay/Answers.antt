use Rattle.replay.proofs.Onward.{onward_start, onward_less, onward_on, onward_end}
use Rattle.replay.proofs.packets.replay.Goals as goal

pub loop-next-init : goal.loop-next-init
loop-next-init g c = search onward_start

pub returns-then-next : goal.returns-then-next
returns-then-next g c = search onward_end

pub loop-next-smaller : goal.loop-next-smaller
loop-next-smaller g c = search onward_less

pub loop-next-preserved : goal.loop-next-preserved
loop-next-preserved g c = search onward_on
