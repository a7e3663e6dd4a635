-- The copies, and the tail behind them.
use Rattle.trysheet.proofs.Copying.{copies_fit, tail_fits, copied_laid}
use Rattle.trysheet.proofs.copies.put_copied.Goals as goal

pub put_copies-at-requires : goal.put_copies-at-requires
put_copies-at-requires c = search copies_fit

pub put_bytes-requires : goal.put_bytes-requires
put_bytes-requires c = search tail_fits

pub returns : goal.returns
returns c = search copied_laid
