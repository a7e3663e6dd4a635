-- The line that comes is the first of those that were left, and the others are left.
use Rattle.std.proofs.Common.{◌≡◌, ◌<◌, ◌∷◌, List, ℕ, length, ap, arith, rules}
use Rattle.text.specs.Lines.{lines_of}
use Rattle.text.proofs.Parts.{lines_first}
use Rattle.text.proofs.each.LinesIterator.next.Goals as goal

pub returns-clause-steps : goal.returns-clause-steps
returns-clause-steps c = search (lines_first, rules)

pub returns-clause-goes : goal.returns-clause-goes
returns-clause-goes c =
    let e : lines_of c.args.self.now.text.now ≡ c.first_line-line.result.now ∷ lines_of c.rest-self.result.now = search (lines_first, rules) in
    let n : length (lines_of c.rest-self.result.now) < length (lines_of c.args.self.now.text.now) = omega (arith, ap (λ (l : List (List ℕ)). length l) e) in
    search rules
