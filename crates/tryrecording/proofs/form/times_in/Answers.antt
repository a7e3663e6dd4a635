use borrow.Author.Rules.{rules}
use Rattle.tryrecording.proofs.Forms.{times_none, times_more, times_all}
use Rattle.tryrecording.proofs.form.times_in.Goals as goal

pub loop-i-init : goal.loop-i-init
loop-i-init c = (search rules, search times_none)

pub loop-i-preserved : goal.loop-i-preserved
loop-i-preserved c = (search rules, search times_more)

pub returns : goal.returns
returns c = search times_all
