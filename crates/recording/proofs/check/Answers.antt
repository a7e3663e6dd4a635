-- By how power-up ended.
use Rattle.std.proofs.Common.{◌≡◌, Err}
use Rattle.std.proofs.lemmas.Result.{err_from_is_err_and}
use Rattle.recording.proofs.Exits.{checked_on, checked_off}
use Rattle.recording.proofs.check.Goals as goal

pub returns-in_err-count_check : goal.returns-in_err-count_check
returns-in_err-count_check c =
    let p = err_from_is_err_and c.from_residual.result c.from_residual.ensures.1 in
    let e : c.from_residual.result ≡ Err c.in_err-count_check.field-0.0 = rw p.2 at p.1 in
    search (checked_off, c.in_err-count_check.was, e)

pub returns : goal.returns
returns c = search (checked_on, c.in_ok-count_check.was)
