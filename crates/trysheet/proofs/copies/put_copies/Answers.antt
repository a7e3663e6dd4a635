use Rattle.trysheet.proofs.Copying.{copies_none, copy_fits, copies_more, copies_all}
use Rattle.trysheet.proofs.copies.put_copies.Goals as goal

pub loop-init : goal.loop-init
loop-init c = search copies_none

pub put_bytes-at-requires : goal.put_bytes-at-requires
put_bytes-at-requires c = search copy_fits

pub loop-preserved : goal.loop-preserved
loop-preserved c = search copies_more

pub returns : goal.returns
returns c = search copies_all
