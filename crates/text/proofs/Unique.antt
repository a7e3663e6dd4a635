-- A second result that meets a contract is equal to the first, for each public function.
use mathlib.Core.Path.{◌≡◌, sym, ◌∙◌}
use Rattle.wire.proofs.OneResult.{OneResult}
use Rattle.wire.proofs.Parts.{OnePart, one_part_lem}
use Rattle.text.proofs.lines.first.Reads as first
use Rattle.text.proofs.lines.rest.Reads as rest
use Rattle.text.proofs.lines.first_line.Reads as first-line
use Rattle.text.proofs.digits.read_decimal.Reads as read-decimal
use Rattle.text.proofs.same.is_same.Reads as is_same
use Rattle.text.specs.Each.{lines_left}
use Rattle.text.proofs.each.Lines.of.Reads as lines-of

pub read_decimal_unique : OneResult read-decimal.Post
read_decimal_unique κs a r r' s s' p q = p.answer ∙ sym q.answer

pub is_same_unique : OneResult is_same.Post
is_same_unique κs a r r' s s' p q = p ∙ sym q

-- the part that is handed back: its position and its bytes
pub first_unique : OnePart first.Post
first_unique κs a r r' s s' p q = one_part_lem p q

pub rest_unique : OnePart rest.Post
rest_unique κs a r r' s s' p q = one_part_lem p q

pub first_line_unique : OnePart first-line.Post
first_line_unique κs a r r' s s' p q = one_part_lem p q

-- the lines that are to come
pub lines_of_unique : (κs : _) (a : _) (r r' : _) (s s' : _) → lines-of.Post κs a r s → lines-of.Post κs a r' s' → lines_left r ≡ lines_left r'
lines_of_unique κs a r r' s s' p q = p ∙ sym q
