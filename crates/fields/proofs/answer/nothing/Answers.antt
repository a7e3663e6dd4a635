-- The answer with no bytes.
use Rattle.std.proofs.Common.{refl}
use Rattle.fields.specs.Answer.{fields_nothing}
use Rattle.fields.proofs.answer.nothing.Goals as goal

pub returns : goal.returns
unfolding fields_nothing
returns c = refl
