-- A second result that meets a contract is equal to the first, for each public function; and so is what the lent buffer then holds.
use mathlib.Core.Path.{◌≡◌, sym, ◌∙◌}
use Rattle.hexadecimal.proofs.pairs.read_bytes.Reads as read-bytes
use Rattle.hexadecimal.proofs.writing.write_line.Reads as write-line

pub read_bytes_unique : (κs : _) (a : _) (r r' : _) (s s' : _) → read-bytes.Post κs a r s → read-bytes.Post κs a r' s' → (r ≡ r') × (s.1.0.now ≡ s'.1.0.now)
read_bytes_unique κs a r r' s s' p q = (p.answer ∙ sym q.answer, p.leaves ∙ sym q.leaves)

pub write_line_unique : (κs : _) (a : _) (r r' : _) (s s' : _) → write-line.Post κs a r s → write-line.Post κs a r' s' → (r ≡ r') × (s.1.0.now ≡ s'.1.0.now)
write_line_unique κs a r r' s s' p q = (p.answer ∙ sym q.answer, p.leaves ∙ sym q.leaves)
