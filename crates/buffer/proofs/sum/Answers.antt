-- The fold adds byte by byte.
use Rattle.std.proofs.Common.{◌≡◌, ◌+◌, ◌%◌, fold, zero-add, rules, ◌∙◌}
use Rattle.buffer.proofs.Sums.{fold_sum}
use Rattle.buffer.proofs.sum.Goals as goal

pub returns : goal.returns
returns c =
    let e : c.fold.result ≡ fold (λ a x. (a + x) % 256) 0 c.args.s.now = search rules in
    e ∙ rw zero-add at (fold_sum c.args.s.now 0)
