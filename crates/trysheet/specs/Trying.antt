-- The lines of the program `trials` that try movement sheets: what each is answered, by the bytes behind its first.
use Rattle.std.specs.Prelude.{ℕ, cond, List, take, drop, Result, Ok, Err}
use Rattle.wire.specs.declared.refusal.Refusal.{Refusal}
use Rattle.wire.specs.Numbers.{number_by}
use Rattle.wire.specs.Promise.{Outcome}
use Rattle.sheet.specs.declared.importing.ImportError.{ImportError}
use Rattle.sheet.specs.declared.importing.ImportError.TheVariants as wrong
use Rattle.sheet.specs.Sheet.{import_of, imported_number}
use Rattle.sheet.specs.Packets.{export_of}
use Rattle.fields.specs.declared.answer.Answer.{Answer}
use Rattle.fields.specs.Answer.{fields_nothing, answer_put, answer_put_word, answer_put_triple, malformed_of, valued_of}
use Rattle.fields.specs.Lending.{most_word_room, most_triple_room, filled_word, filled_triple, room_of, is_lending}
use Rattle.trysheet.specs.declared.View.{View}
use Rattle.trysheet.specs.declared.View.TheVariants as view
use Rattle.trysheet.specs.Sums.{sums_of}
use Rattle.trysheet.specs.Copies.{copied_of, is_copied}

-- "value: the length written; for 0E the line's number from 1; for other refusals 0000"
abbrev pub import_value : Result ℕ ImportError → ℕ
import_value (Ok n) = n
import_value (Err (wrong.Refused why)) = 0
import_value (Err (wrong.Line k)) = k

-- "value: the length written, 0000 for a refusal"
abbrev pub export_value : Result ℕ Refusal → ℕ
export_value (Ok n) = n
export_value (Err why) = 0

-- `NN value(3) SUMS`
unfoldable pub summed_of : ℕ → ℕ → List ℕ → Answer
summed_of n v lent = answer_put_word (answer_put_word (answer_put_triple (answer_put fields_nothing n) v) (sums_of lent).a) (sums_of lent).b

-- a lent buffer is shown whole, `NN value(2) buffer`, or by its sums
abbrev pub trysheet_show : View → ℕ → ℕ → List ℕ → Answer
trysheet_show view.Whole n v lent = valued_of n v lent
trysheet_show view.Summed n v lent = summed_of n v lent

-- a sheet imported into a lent buffer
abbrev pub import_shown : View → Outcome (Result ℕ ImportError) (List ℕ) → Answer
import_shown w o = trysheet_show w (imported_number o.answer) (import_value o.answer) o.left

unfoldable pub import_into : View → List ℕ → List ℕ → Answer
import_into w s out = import_shown w (import_of s out)

-- packets exported into one
abbrev pub export_shown : View → Outcome (Result ℕ Refusal) (List ℕ) → Answer
export_shown w o = trysheet_show w (number_by o.answer) (export_value o.answer) o.left

unfoldable pub export_into : View → List ℕ → List ℕ → Answer
export_into w s out = export_shown w (export_of s out)

-- "`40 room(2) text..` import a sheet (the text as bytes): `NN value(2) buffer`"
unfoldable pub trysheet_import : List ℕ → Answer
trysheet_import s = cond (is_lending s 2 most_word_room) (import_into view.Whole (drop 2 s) (take (room_of s most_word_room) filled_word)) malformed_of

-- "`41 room(2) packets..` export packets: `NN value(2) buffer`"
unfoldable pub trysheet_export : List ℕ → Answer
trysheet_export s = cond (is_lending s 2 most_word_room) (export_into view.Whole (drop 2 s) (take (room_of s most_word_room) filled_word)) malformed_of

-- with a room of three bytes, at the start of the line
unfoldable pub import_summed : List ℕ → List ℕ → Answer
import_summed s sheet = import_into view.Summed sheet (take (room_of s most_triple_room) filled_triple)

unfoldable pub export_summed : List ℕ → List ℕ → Answer
export_summed s packets = export_into view.Summed packets (take (room_of s most_triple_room) filled_triple)

-- "`42 ..` import the sheet made of `times` copies of the unit and then the tail: `NN value(3) SUMS` .. More than 69632 bytes in all: `FF`"
unfoldable pub import_copied : List ℕ → Answer
import_copied s = cond (is_copied s 69632) (import_summed s (copied_of s)) malformed_of

-- "`43 ..` export packets made so: `NN value(3) SUMS`. More than 32768 bytes in all: `FF`"
unfoldable pub export_copied : List ℕ → Answer
export_copied s = cond (is_copied s 32768) (export_summed s (copied_of s)) malformed_of
