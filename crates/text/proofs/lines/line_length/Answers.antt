-- The first newline is where the line ends.
use Rattle.std.proofs.Common.{◌≡◌, eqb, length, ap, ◌∙◌, rules, tests}
use Rattle.std.specs.List.{position}
use Rattle.std.specs.Option.{unwrap_or}
use Rattle.std.proofs.lemmas.Iterator.{YieldsList-from_slice}
use Rattle.std.proofs.lemmas.Iterator.Search.{position_from_yields_List}
use Rattle.text.specs.Lines.{newline}
use Rattle.text.proofs.Parts.{line_found}
use Rattle.text.proofs.lines.line_length.Goals as goal

pub returns : goal.returns
returns c =
    let p : c.position.result ≡ position (λ b. eqb b newline) c.args.s.now =
    position_from_yields_List (λ b. eqb b newline) _ _ c.position.result c.position.ensures.ran (YieldsList-from_slice _ c.iter.ensures.rest) (λ x b q k. search (rules, tests)) in
    c.unwrap_or.ensures ∙ ap (λ r. unwrap_or r (length c.args.s.now)) p ∙ line_found c.args.s.now
