-- The first node's digit is within the set.
use Rattle.survey.proofs.Members.{first_taken}
use Rattle.survey.proofs.sets.without_first.Goals as goal

pub overflow_sub-result : goal.overflow_sub-result
overflow_sub-result c = search first_taken
