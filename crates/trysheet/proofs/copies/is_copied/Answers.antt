-- By the tests, in order.
use Rattle.trysheet.proofs.Copying.{not_lending, len_past, copied_fits}
use Rattle.trysheet.proofs.copies.is_copied.Goals as goal

pub returns-then-not-is_lending : goal.returns-then-not-is_lending
returns-then-not-is_lending c = search not_lending

pub returns-then-said-len : goal.returns-then-said-len
returns-then-said-len c = search len_past

pub returns : goal.returns
returns c = search copied_fits
