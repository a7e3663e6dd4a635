-- By the length of the sheet, then by what is found before anything is written.
use Rattle.std.proofs.lemmas.Result.{err_from_is_err_and}
use Rattle.sheet.proofs.Imports.{import_long, import_failed, import_done}
use Rattle.sheet.proofs.importing.import.Goals as goal

pub returns-then-sheet-gt-MOST : goal.returns-then-sheet-gt-MOST
returns-then-sheet-gt-MOST c = search import_long

pub returns : goal.returns
returns c = search (import_done, c.in_ok-length.was)

pub returns-in_err-length : goal.returns-in_err-length
returns-in_err-length c =
    let p = err_from_is_err_and c.from_residual.result c.from_residual.ensures.1 in
    rw (p.1, p.2) (search (import_failed, c.in_err-length.was))
