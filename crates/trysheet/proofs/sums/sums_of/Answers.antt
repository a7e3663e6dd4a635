-- The fold over the bytes.
use Rattle.std.proofs.Common.{rules, tests, ◌∙◌}
use Rattle.std.proofs.lemmas.Iterator.{YieldsList-from_slice}
use Rattle.std.proofs.lemmas.Iterator.Consumers.{fold_from_yields_List}
use Rattle.trysheet.specs.Sums.{sums_with}
use Rattle.trysheet.proofs.Summing.{folded}
use Rattle.trysheet.proofs.sums.sums_of.Goals as goal

pub returns : goal.returns
returns c = fold_from_yields_List _ sums_with _ _ c.fold.ensures.ran (YieldsList-from_slice c.args.bytes.now cc) (λ a x b q k. search (rules, tests)) ∙ folded _ c.args.bytes.now
