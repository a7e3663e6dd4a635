-- Read through first, then read again where it is of its form.
use Rattle.hexadecimal.proofs.Pairing.{read_empty, read_bad, read_good}
use Rattle.hexadecimal.proofs.pairs.read_bytes.Goals as goal

pub returns-then-line-lt1 : goal.returns-then-line-lt1
returns-then-line-lt1 c = search read_empty

pub returns-in_err-read_pairs : goal.returns-in_err-read_pairs
returns-in_err-read_pairs c = rw c.from_residual.ensures (search (read_bad, c.in_err-read_pairs.was))

pub returns : goal.returns
returns c = search (read_good, c.in_ok-read_pairs.was)
