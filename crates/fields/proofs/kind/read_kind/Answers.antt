-- By the byte.
use Rattle.wire.proofs.Tests.{tests}
use Rattle.fields.specs.Kind.{read_kind}
use Rattle.fields.proofs.kind.read_kind.Goals as goal

pub returns-then-b-eq1 : goal.returns-then-b-eq1
unfolding read_kind
returns-then-b-eq1 c = search tests

pub returns-else-b-eq1 : goal.returns-else-b-eq1
unfolding read_kind
returns-else-b-eq1 c = search tests
