-- The word, and the number behind it.
use Rattle.script.proofs.TextLines.{word_room, number_fits, refused_done}
use Rattle.script.proofs.answers.put_refused_line.Goals as goal

pub put_number_end-requires : goal.put_number_end-requires
put_number_end-requires c = (search word_room, search number_fits)

pub returns : goal.returns
returns c = search refused_done
