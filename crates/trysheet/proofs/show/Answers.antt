-- By the view.
use Rattle.trysheet.proofs.Tries.{shown_whole, shown_summed}
use Rattle.trysheet.proofs.show.Goals as goal

pub returns-in-Whole : goal.returns-in-Whole
returns-in-Whole c = search shown_whole

pub returns-in-Summed : goal.returns-in-Summed
returns-in-Summed c = search shown_summed
