-- By the kinds.
use Rattle.tryrecording.proofs.Forms.{no_kinds, with_kinds}
use Rattle.tryrecording.proofs.form.is_recording.Goals as goal

pub returns-then-are_kinds : goal.returns-then-are_kinds
returns-then-are_kinds c = search with_kinds

pub returns : goal.returns
returns c = search no_kinds
