-- Value by value.
use borrow.Author.Rules.{rules}
use Rattle.codec.specs.Build.{gain_data}
use Rattle.codec.proofs.building.gain_data.Goals as goal

pub returns : goal.returns
unfolding gain_data
returns c = search rules
