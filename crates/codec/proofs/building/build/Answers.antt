-- An address and a command of their ranges are built, all others are refused.
use Rattle.codec.proofs.Filling.{sent, unfit, no_address}
use Rattle.codec.proofs.building.build.Goals as goal

pub returns-then-fits : goal.returns-then-fits
returns-then-fits c = search sent

pub returns-else-fits : goal.returns-else-fits
returns-else-fits c = search unfit

pub returns-else-in_range : goal.returns-else-in_range
returns-else-in_range c = search no_address
