-- What the line says in copies has room, and is all that is handed on.
use Rattle.std.proofs.Common.{rules}
use Rattle.trysheet.proofs.Tries.{copied_room, exports_copied, exports_copied_not}
use Rattle.trysheet.proofs.export_copied.Goals as goal

pub put_copied-n-requires : goal.put_copied-n-requires
put_copied-n-requires c = search (rules, copied_room)

pub returns-then-is_copied : goal.returns-then-is_copied
returns-then-is_copied c = search exports_copied

pub returns : goal.returns
returns c = search exports_copied_not
