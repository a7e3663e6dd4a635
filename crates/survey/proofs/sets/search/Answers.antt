use Rattle.survey.proofs.Searching.{search_past, search_first, search_last}
use Rattle.survey.proofs.sets.search.Goals as goal
use Rattle.survey.proofs.sets.search.Goals.{then-rest-eq1+in-None+else-rest-eq1-2, else-rest-eq1}

pub loop-i-preserved : goal.loop-i-preserved
loop-i-preserved c =
    elim c.if-rest-eq1.branch [
      | then-rest-eq1+in-None+else-rest-eq1-2 w ↦ search search_first
      | else-rest-eq1 w ↦ search search_past
    ]

pub returns-then-rest-eq1-2 : goal.returns-then-rest-eq1-2
returns-then-rest-eq1-2 c = search search_last
