-- The room is within the buffer; what lies in it is lent.
use Rattle.fields.proofs.Fields.{room_fits}
use Rattle.trysheet.proofs.Tries.{imports_summed}
use Rattle.trysheet.proofs.import_summed.Goals as goal

pub slice_bounds-buffer-end : goal.slice_bounds-buffer-end
slice_bounds-buffer-end c = search room_fits

pub returns : goal.returns
returns c = search imports_summed
