-- "KIND: 00 an LS-773, 01 an LS-173AP".
use Rattle.std.specs.Prelude.{ℕ, Bool, true, cond, ◌&&◌, List, [], ◌∷◌, map, ltb, eqb}
use Rattle.wire.specs.declared.kind.Kind.{Kind}
use Rattle.wire.specs.declared.kind.Kind.TheVariants.{Gate, Drive}
use Rattle.fields.specs.declared.answer.Answer.{Answer}
use Rattle.fields.specs.Answer.{answer_put}
use Rattle.fields.specs.Field.{fields_byte}
use Rattle.fields.specs.Record.{records_from}

-- a byte is a KIND
abbrev pub is_kind : ℕ → Bool
is_kind b = ltb b 2

-- the kind that it says; what is no KIND is taken for an LS-773
unfoldable pub read_kind : ℕ → Kind
read_kind b = cond (eqb b 1) Drive Gate

-- the KIND of a kind
abbrev pub kind_byte : Kind → ℕ
kind_byte Gate = 0
kind_byte Drive = 1

-- a KIND more in an answer
unfoldable pub answer_put_kind : Answer → Kind → Answer
answer_put_kind a k = answer_put a (kind_byte k)

-- each of these bytes is a KIND
unfoldable pub are_kinds : List ℕ → Bool
are_kinds [] = true
are_kinds (b ∷ s) = is_kind b && are_kinds s

-- the kind at the start of s
abbrev pub first_kind : List ℕ → Kind
first_kind s = read_kind (fields_byte s 0)

-- one byte each
abbrev pub kind_length : List ℕ → ℕ
kind_length s = 1

-- the kinds that they say of all nodes of a chain; past their end are LS-773s
unfoldable pub read_kinds : List ℕ → List Kind
read_kinds s = map first_kind (records_from kind_length 31 s)
