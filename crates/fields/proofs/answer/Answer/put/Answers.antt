-- The byte, where it has room.
use Rattle.wire.proofs.Tests.{tests}
use Rattle.fields.specs.Answer.{answer_put}
use Rattle.fields.proofs.answer.Answer.put.Goals as goal

pub returns-then-self-lt-MOST_BYTES : goal.returns-then-self-lt-MOST_BYTES
unfolding answer_put
returns-then-self-lt-MOST_BYTES c = search tests

pub returns-else-self-lt-MOST_BYTES : goal.returns-else-self-lt-MOST_BYTES
unfolding answer_put
returns-else-self-lt-MOST_BYTES c = search tests
