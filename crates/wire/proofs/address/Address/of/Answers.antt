-- The test on bit 7 picks the case.
use Rattle.wire.proofs.Tests.{tests}
use Rattle.wire.proofs.address.Address.of.Goals as goal

pub returns-then-byte-lt128 : goal.returns-then-byte-lt128
returns-then-byte-lt128 c = search tests

pub returns-else-byte-lt128 : goal.returns-else-byte-lt128
returns-else-byte-lt128 c = search tests
