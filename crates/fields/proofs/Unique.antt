-- A second result that meets a contract is equal to the first, for each public function.
use Rattle.std.proofs.Common.{ℕ, sym, ◌∙◌, Fits, w64}
use Rattle.wire.proofs.OneResult.{OneResult}
use Rattle.fields.proofs.read.byte.Reads as byte
use Rattle.fields.proofs.read.word.Reads as word
use Rattle.fields.proofs.read.triple.Reads as triple
use Rattle.fields.proofs.read.long.Reads as long
use Rattle.fields.proofs.answer.nothing.Reads as nothing
use Rattle.fields.proofs.answer.Answer.put.Reads as put
use Rattle.fields.proofs.answer.Answer.put_flag.Reads as put-flag
use Rattle.fields.proofs.answer.Answer.put_word.Reads as put_word
use Rattle.fields.proofs.answer.Answer.put_triple.Reads as put-triple
use Rattle.fields.proofs.answer.Answer.put_long.Reads as put_long
use Rattle.fields.proofs.answer.Answer.put_all.Reads as put_all_lem
use Rattle.fields.proofs.answer.malformed.Reads as malformed
use Rattle.fields.proofs.answer.numbered.Reads as numbered
use Rattle.fields.proofs.answer.valued.Reads as valued
use Rattle.fields.proofs.read.filled.Reads as filled
use Rattle.fields.proofs.read.room.Reads as room
use Rattle.fields.proofs.read.is_lending.Reads as is-lending
use Rattle.fields.proofs.kind.is_kind.Reads as is-kind
use Rattle.fields.proofs.kind.read_kind.Reads as read-kind
use Rattle.fields.proofs.answer.Answer.put_kind.Reads as put-kind
use Rattle.fields.proofs.kind.are_kinds.Reads as are-kinds
use Rattle.fields.proofs.kind.read_kinds.Reads as read-kinds

pub byte_unique : OneResult byte.Post
byte_unique κs a r r' s s' p q = p ∙ sym q

pub word_unique : OneResult word.Post
word_unique κs a r r' s s' p q = p ∙ sym q

pub triple_unique : OneResult triple.Post
triple_unique κs a r r' s s' p q = p ∙ sym q

pub long_unique : OneResult long.Post
long_unique κs a r r' s s' p q = p ∙ sym q

pub nothing_unique : OneResult nothing.Post
nothing_unique κs a r r' s s' p q = p ∙ sym q

pub put_unique : OneResult put.Post
put_unique κs a r r' s s' p q = p ∙ sym q

pub put_flag_unique : OneResult put-flag.Post
put_flag_unique κs a r r' s s' p q = p ∙ sym q

pub put_word_unique : OneResult put_word.Post
put_word_unique κs a r r' s s' p q = p ∙ sym q

pub put_triple_unique : OneResult put-triple.Post
put_triple_unique κs a r r' s s' p q = p ∙ sym q

pub put_long_unique : OneResult put_long.Post
put_long_unique κs a r r' s s' p q = p ∙ sym q

pub put_all_unique : OneResult put_all_lem.Post
put_all_unique κs a r r' s s' p q = p ∙ sym q

pub malformed_unique : OneResult malformed.Post
malformed_unique κs a r r' s s' p q = p ∙ sym q

pub numbered_unique : OneResult numbered.Post
numbered_unique κs a r r' s s' p q = p ∙ sym q

pub valued_unique : OneResult valued.Post
valued_unique κs a r r' s s' p q = p ∙ sym q

pub filled_unique : (n : ℕ) (f : Fits w64 n) → OneResult (filled.Post n f)
filled_unique n f κs a r r' s s' p q = p ∙ sym q

pub room_unique : OneResult room.Post
room_unique κs a r r' s s' p q = p ∙ sym q

pub is_lending_unique : OneResult is-lending.Post
is_lending_unique κs a r r' s s' p q = p ∙ sym q

pub is_kind_unique : OneResult is-kind.Post
is_kind_unique κs a r r' s s' p q = p ∙ sym q

pub read_kind_unique : OneResult read-kind.Post
read_kind_unique κs a r r' s s' p q = p ∙ sym q

pub put_kind_unique : OneResult put-kind.Post
put_kind_unique κs a r r' s s' p q = p ∙ sym q

pub are_kinds_unique : OneResult are-kinds.Post
are_kinds_unique κs a r r' s s' p q = p ∙ sym q

pub read_kinds_unique : OneResult read-kinds.Post
read_kinds_unique κs a r r' s s' p q = p ∙ sym q
