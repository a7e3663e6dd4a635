-- The steps from power-up on, counted, then written behind the head; the state behind them.
use Rattle.tryrecording.proofs.Tries.{walk_first, walk_behind, walked}
use Rattle.tryrecording.proofs.put_walk_bytes.Goals as goal

pub count_steps-count-requires : goal.count_steps-count-requires
count_steps-count-requires c = search walk_first

pub put_steps_from-behind-requires : goal.put_steps_from-behind-requires
put_steps_from-behind-requires c = search walk_behind

pub returns : goal.returns
returns c = search walked
