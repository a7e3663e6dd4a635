-- The parts of the line.
use borrow.Author.Rules.{rules}
use Rattle.tryrecording.proofs.Tries.{command_few, reply_few, command_fits, reply_fits, part_few, shows_captured}
use Rattle.tryrecording.proofs.put_captured_bytes.Goals as goal

pub times_in-command_times-requires : goal.times_in-command_times-requires
times_in-command_times-requires c = search command_few

pub times_in-reply_times-requires : goal.times_in-reply_times-requires
times_in-reply_times-requires c = search reply_few

pub slice_bounds-taken-end : goal.slice_bounds-taken-end
slice_bounds-taken-end c = search (rules, command_fits)

pub slice_bounds-taken-end-2 : goal.slice_bounds-taken-end-2
slice_bounds-taken-end-2 c = search (rules, reply_fits)

pub put_replay_bytes-requires : goal.put_replay_bytes-requires
put_replay_bytes-requires c = (search (rules, part_few), search (rules, part_few))

pub returns : goal.returns
returns c = search shows_captured
