-- The room is within the buffer; what lies in it is lent.
use Rattle.fields.proofs.Fields.{room_fits}
use Rattle.trysheet.proofs.Tries.{exports, exports_not}
use Rattle.trysheet.proofs.export.Goals as goal

pub slice_bounds-buffer-end : goal.slice_bounds-buffer-end
slice_bounds-buffer-end c = search room_fits

pub returns-then-is_lending : goal.returns-then-is_lending
returns-then-is_lending c = search exports

pub returns : goal.returns
returns c = search exports_not
