-- Its byte.
use Rattle.std.proofs.Common.{rules}
use Rattle.fields.specs.Kind.{answer_put_kind}
use Rattle.fields.proofs.answer.Answer.put_kind.Goals as goal

pub returns : goal.returns
unfolding answer_put_kind
returns c = search rules
