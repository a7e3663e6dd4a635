-- What is written stands within the output.
use Rattle.script.proofs.Within.{written_within, written_part}
use Rattle.bench.proofs.main.Goals as goal

pub slice_bounds-output-end : goal.slice_bounds-output-end
slice_bounds-output-end c = written_within _ _ _ _ _ c.rehearse.ensures c.in-Ok.is

pub slice_bounds-write_all-end : goal.slice_bounds-write_all-end
slice_bounds-write_all-end c = written_part _ _ _ _ _ c.rehearse.ensures c.in-Ok.is
