-- The test of all bytes.
use Rattle.std.proofs.Common.{rules, tests, ◌∙◌}
use Rattle.std.proofs.lemmas.Iterator.{YieldsList-from_slice}
use Rattle.std.proofs.lemmas.Iterator.Search.{all_from_yields_List}
use Rattle.fields.specs.Kind.{is_kind}
use Rattle.fields.proofs.Telling.{all_kinds}
use Rattle.fields.proofs.kind.are_kinds.Goals as goal

pub returns : goal.returns
returns c = all_from_yields_List is_kind _ _ _ c.all.ensures.ran (YieldsList-from_slice c.args.s.now cc) (λ x b q k. search (rules, tests)) ∙ all_kinds c.args.s.now
