-- The word behind the bytes.
use Rattle.tryrecording.proofs.Forms.{count_word}
use Rattle.tryrecording.proofs.form.time_count.Goals as goal

pub returns : goal.returns
returns c = search count_word
