-- The room is within the buffer; what lies in it is lent.
use Rattle.fields.proofs.Fields.{room_fits}
use Rattle.trysheet.proofs.Tries.{imports, imports_not}
use Rattle.trysheet.proofs.import.Goals as goal

pub slice_bounds-buffer-end : goal.slice_bounds-buffer-end
slice_bounds-buffer-end c = search room_fits

pub returns-then-is_lending : goal.returns-then-is_lending
returns-then-is_lending c = search imports

pub returns : goal.returns
returns c = search imports_not
