-- What the lines are answered; a law for each exit of the code.
use Rattle.std.proofs.Common.{◌≡◌, ℕ, ◌-◌, ◌≤◌, Bool, true, false, List, length, take, drop, sym, ◌∙◌, arith, Result}
use Rattle.wire.specs.declared.refusal.Refusal.{Refusal}
use Rattle.wire.specs.Numbers.{number_by}
use native.Mathlib.Nat.{sub-zero}
use Rattle.wire.specs.Promise.{Lending}
use Rattle.sheet.specs.declared.importing.ImportError.{ImportError}
use Rattle.sheet.specs.Sheet.{import_of, imported_number}
use Rattle.sheet.specs.Packets.{export_of}
use Rattle.fields.specs.declared.answer.Answer.{Answer}
use Rattle.fields.specs.Answer.{fields_nothing, answer_put, answer_put_word, answer_put_triple, malformed_of, valued_of}
use Rattle.fields.specs.Lending.{most_word_room, most_triple_room, filled_word, filled_triple, room_of, is_lending}
use Rattle.trysheet.specs.declared.View.{View}
use Rattle.trysheet.specs.declared.View.TheVariants as view
use Rattle.trysheet.specs.declared.sums.Sums.{Sums}
use Rattle.trysheet.specs.Sums.{sums_of}
use Rattle.trysheet.specs.Copies.{copied_of, is_copied}
use Rattle.trysheet.specs.Trying.{import_value, export_value, summed_of, trysheet_show, import_into, export_into, import_summed, export_summed, trysheet_import, trysheet_export, import_copied, export_copied}
use Rattle.trysheet.proofs.Copying.{copied_most}

-- ---- what is shown

pub summed_put : (l : List ℕ) (n v : ℕ) (s : Sums) (x₀ x₁ x₂ x₃ r : Answer) → s ≡ sums_of l → x₀ ≡ fields_nothing → x₁ ≡ answer_put x₀ n → x₂ ≡ answer_put_triple x₁ v
    → x₃ ≡ answer_put_word x₂ s.a → r ≡ answer_put_word x₃ s.b → r ≡ summed_of n v l
unfolding summed_of
summed_put l n v s x₀ x₁ x₂ x₃ r e e₀ e₁ e₂ e₃ f = rw (f, e₃, e₂, e₁, e₀, e)

module _ (w : View) (l : List ℕ) (n v : ℕ) (r : Answer) where
  pub shown_whole : w ≡ view.Whole → r ≡ valued_of n v l → r ≡ trysheet_show w n v l
  shown_whole e f = rw e f

  pub shown_summed : w ≡ view.Summed → r ≡ summed_of n v l → r ≡ trysheet_show w n v l
  shown_summed e f = rw e f

module _ (w : View) (s out left : List ℕ) (n v : ℕ) (r : Answer) (f : r ≡ trysheet_show w n v left) where
  pub import_shown_lem : (d : Result ℕ ImportError) → Lending imported_number d left (import_of s out) → n ≡ imported_number d → v ≡ import_value d → r ≡ import_into w s out
  unfolding import_into
  import_shown_lem d l en ev = rw (f, en, ev, l.answer, l.leaves)

  pub export_shown_lem : (d : Result ℕ Refusal) → Lending number_by d left (export_of s out) → n ≡ number_by d → v ≡ export_value d → r ≡ export_into w s out
  unfolding export_into
  export_shown_lem d l en ev = rw (f, en, ev, l.answer, l.leaves)

-- ---- a room of two bytes: the part of the buffer from 0 on

module _ (s : List ℕ) (t : Bool) (r : Answer) (e : t ≡ is_lending s 2 most_word_room) where
  module _ (b d : List ℕ) (n : ℕ) (y : t ≡ true) (eb : b ≡ filled_word) (en : n ≡ room_of s most_word_room) (ed : d ≡ drop 2 s) where
    pub imports : r ≡ import_into view.Whole d (take (n - 0) b) → r ≡ trysheet_import s
    unfolding trysheet_import
    imports er = rw (sym e ∙ y, er, ed, eb, en, sub-zero (room_of s most_word_room))

    pub exports : r ≡ export_into view.Whole d (take (n - 0) b) → r ≡ trysheet_export s
    unfolding trysheet_export
    exports er = rw (sym e ∙ y, er, ed, eb, en, sub-zero (room_of s most_word_room))

  pub imports_not : t ≡ false → r ≡ malformed_of → r ≡ trysheet_import s
  unfolding trysheet_import
  imports_not y er = rw (sym e ∙ y, er)

  pub exports_not : t ≡ false → r ≡ malformed_of → r ≡ trysheet_export s
  unfolding trysheet_export
  exports_not y er = rw (sym e ∙ y, er)

-- ---- a room of three bytes

module _ (s d b : List ℕ) (n : ℕ) (r : Answer) (eb : b ≡ filled_triple) (en : n ≡ room_of s most_triple_room) where
  pub imports_summed : r ≡ import_into view.Summed d (take (n - 0) b) → r ≡ import_summed s d
  unfolding import_summed
  imports_summed er = rw (er, eb, en, sub-zero (room_of s most_triple_room))

  pub exports_summed : r ≡ export_into view.Summed d (take (n - 0) b) → r ≡ export_summed s d
  unfolding export_summed
  exports_summed er = rw (er, eb, en, sub-zero (room_of s most_triple_room))

-- ---- copies

-- what a line says has room
pub copied_room : (s b : List ℕ) (most : ℕ) (t : Bool) → t ≡ is_copied s most → t ≡ true → 69632 ≡ length b → most ≤ 69632 → length (copied_of s) ≤ length b
copied_room s b most t e y l m = let h = copied_most s most t e y in omega arith

module _ (s : List ℕ) (t : Bool) (r : Answer) where
  pub imports_copied : (b d : List ℕ) (n : ℕ) → t ≡ is_copied s 69632 → t ≡ true → take n b ≡ copied_of s → d ≡ take n b → r ≡ import_summed s d → r ≡ import_copied s
  unfolding import_copied
  imports_copied b d n e y f g er = rw (sym e ∙ y, er, g, f)

  pub imports_copied_not : t ≡ is_copied s 69632 → t ≡ false → r ≡ malformed_of → r ≡ import_copied s
  unfolding import_copied
  imports_copied_not e y er = rw (sym e ∙ y, er)

  pub exports_copied : (b d : List ℕ) (n : ℕ) → t ≡ is_copied s 32768 → t ≡ true → take n b ≡ copied_of s → d ≡ take n b → r ≡ export_summed s d → r ≡ export_copied s
  unfolding export_copied
  exports_copied b d n e y f g er = rw (sym e ∙ y, er, g, f)

  pub exports_copied_not : t ≡ is_copied s 32768 → t ≡ false → r ≡ malformed_of → r ≡ export_copied s
  unfolding export_copied
  exports_copied_not e y er = rw (sym e ∙ y, er)
