-- What the exits of the functions need, in the form in which the code gives it.
use Prim.Native.Nat.{ℕ, zero, suc, ◌+◌, ◌/◌, ◌≤◌, ◌<◌}
use mathlib.Core.List.{List, [], ◌∷◌}
use mathlib.Core.Path.{◌≡◌, refl, sym, ap, ◌∙◌}
use lib.ListN.{length, take, drop, replicate, drop_of_length-le}
use borrow.Author.Tests.{eq-eqb, ne_eqb, lt-ltb, le-ltb}
use Rattle.std.proofs.Common.{Result, IfOk, Option, Some, None, ℕ}
use Rattle.std.proofs.lemmas.Result.{IfOk-weaker}
use Rattle.wire.specs.Promise.{Lending}
use Rattle.wire.proofs.Impossible.{impossible}
use Rattle.text.specs.Lines.{first_line, lines_of}
use Rattle.text.proofs.Parts.{lines_next}
use Rattle.hexadecimal.specs.Hex.{Content, bytes, malformed, bytes_in, over, read_bytes, parsed_number}
use Rattle.fields.specs.declared.answer.Answer.{Answer}
use Rattle.fields.specs.Field.{fields_byte}
use Rattle.fields.specs.Answer.{malformed_of}
use Rattle.session.specs.declared.Session.{Session}
use Rattle.start.specs.Start.{fresh_of}
use Rattle.trypacket.specs.Trial.{trypacket_build, trypacket_read, read_status}
use Rattle.trychain.specs.Delivering.{trychain_deliver}
use Rattle.trysheet.specs.Trying.{trysheet_import, trysheet_export, import_copied, export_copied}
use Rattle.tryhost.specs.declared.Tried.{Tried}
use Rattle.tryhost.specs.Trying.{with_session, attempt_of}
use Rattle.trylines.specs.Trying.{most_input, input_room, trylines_answer, trylines_attempt, said_bytes, kept_bytes, try_bytes, try_line, try_lines, try_all}

-- ---- rooms

pub all_zero : (n : ℕ) → n ≡ 65537 → replicate n 0 ≡ input_room
unfolding input_room
all_zero n e = rw e

-- ---- by the first byte

module _ (kind : ℕ) (args : List ℕ) (r : Answer) where
  pub answers_build : kind ≡ 0x10 → r ≡ trypacket_build args → r ≡ trylines_answer kind args
  unfolding trylines_answer
  answers_build p q = rw p q

  pub answers_read : kind ≡ 0x11 → r ≡ trypacket_read args → r ≡ trylines_answer kind args
  unfolding trylines_answer
  answers_read p q = rw p q

  pub answers_status : kind ≡ 0x12 → r ≡ read_status args → r ≡ trylines_answer kind args
  unfolding trylines_answer
  answers_status p q = rw p q

  pub answers_deliver : kind ≡ 0x20 → r ≡ trychain_deliver args → r ≡ trylines_answer kind args
  unfolding trylines_answer
  answers_deliver p q = rw p q

  pub answers_import : kind ≡ 0x40 → r ≡ trysheet_import args → r ≡ trylines_answer kind args
  unfolding trylines_answer
  answers_import p q = rw p q

  pub answers_export : kind ≡ 0x41 → r ≡ trysheet_export args → r ≡ trylines_answer kind args
  unfolding trylines_answer
  answers_export p q = rw p q

  pub answers_import_copied : kind ≡ 0x42 → r ≡ import_copied args → r ≡ trylines_answer kind args
  unfolding trylines_answer
  answers_import_copied p q = rw p q

  pub answers_export_copied : kind ≡ 0x43 → r ≡ export_copied args → r ≡ trylines_answer kind args
  unfolding trylines_answer
  answers_export_copied p q = rw p q

  pub answers_none : (kind ≡ 0x10 → ⊥) → (kind ≡ 0x11 → ⊥) → (kind ≡ 0x12 → ⊥) → (kind ≡ 0x20 → ⊥) → (kind ≡ 0x40 → ⊥) → (kind ≡ 0x41 → ⊥) → (kind ≡ 0x42 → ⊥) → (kind ≡ 0x43 → ⊥)
      → r ≡ malformed_of → r ≡ trylines_answer kind args
  unfolding trylines_answer
  answers_none a b c d e f g h q =
      rw (ne_eqb kind 0x10 a, ne_eqb kind 0x11 b, ne_eqb kind 0x12 c, ne_eqb kind 0x20 d, ne_eqb kind 0x40 e, ne_eqb kind 0x41 f, ne_eqb kind 0x42 g, ne_eqb kind 0x43 h) q

module _ (s : Session) (kind : ℕ) (args : List ℕ) where
  pub attempts_host : (r : Tried) → kind / 16 ≡ 3 → r ≡ attempt_of s kind args → r ≡ trylines_attempt s kind args
  unfolding trylines_attempt
  attempts_host r p q = rw (eq-eqb (kind / 16) 3 p) q

  pub attempts_other : (a : Answer) (r : Tried) → (kind / 16 ≡ 3 → ⊥) → a ≡ trylines_answer kind args → r ≡ with_session a s → r ≡ trylines_attempt s kind args
  unfolding trylines_attempt
  attempts_other a r p q h = rw (ne_eqb (kind / 16) 3 p, ← q) h

  pub after_recording : kind ≡ 0x50 → s ≡ try_bytes s kind args
  unfolding try_bytes
  after_recording p = rw p

  pub after_other : (t : Tried) (r : Session) → (kind ≡ 0x50 → ⊥) → t ≡ trylines_attempt s kind args → r ≡ t.session → r ≡ try_bytes s kind args
  unfolding try_bytes
  after_other t r p q h = rw (ne_eqb kind 0x50 p, ← q) h

-- ---- a line

-- what is kept of bytes that were read over a buffer
kept_over : (d l : List ℕ) → take (length d) (over d l) ≡ take (length l) d
unfolding over
kept_over [] [] = refl
kept_over [] (x ∷ l) = refl
kept_over (v ∷ d) [] = refl
kept_over (v ∷ d) (x ∷ l) = ap (λ (r : List ℕ). v ∷ r) (kept_over d l)

none_kept : (n : ℕ) → take {A = ℕ} n [] ≡ []
none_kept zero = refl
none_kept (suc n) = refl

module _ (c : Content) (found : Option ℕ) (out left : List ℕ) (p : Lending parsed_number found left (read_bytes c out)) where
  pub said_bytes_lem : (n : ℕ) → found ≡ Some n → take n left ≡ take (length out) (said_bytes c)
  said_bytes_lem n e = go c p
    where
      go : (c : Content) → Lending parsed_number found left (read_bytes c out) → take n left ≡ take (length out) (said_bytes c)
      go (bytes d) p =
          let a : Some n ≡ Some (length d) = sym e ∙ p.answer in
          let f : n ≡ length d = cc in
          rw (f, p.leaves) (kept_over d out)
      go malformed p =
          let a : Some n ≡ None = sym e ∙ p.answer in
          impossible cc

  pub said_nothing : found ≡ None → take 0 left ≡ take (length out) (said_bytes c)
  said_nothing e = go c p
    where
      go : (c : Content) → Lending parsed_number found left (read_bytes c out) → take 0 left ≡ take (length out) (said_bytes c)
      go (bytes d) p =
          let a : None ≡ Some (length d) = sym e ∙ p.answer in
          impossible cc
      go malformed p = sym (none_kept (length out))

pub line_tried : (s r : Session) (line room left b args : List ℕ) (n kind : ℕ) → 21846 ≡ length room → take n left ≡ take (length room) (said_bytes (bytes_in line)) → b ≡ take n left
    → kind ≡ fields_byte b 0 → args ≡ drop 1 b → r ≡ try_bytes s kind args → r ≡ try_line s line
unfolding try_line
line_tried s r line room left b args n kind e f g h i q =
    let k : b ≡ kept_bytes line = g ∙ f ∙ ap (λ (m : ℕ). take m (said_bytes (bytes_in line))) (sym e) in
    rw (q, h, i, k)

-- ---- all lines

pub lines_on : (left ls : List (List ℕ)) (l : List ℕ) → left ≡ l ∷ ls
    → (s s' all : Session) → s' ≡ try_line s l → try_lines s left ≡ all → try_lines s' ls ≡ all
unfolding try_lines
lines_on left ls l next s s' all e f = rw e (rw next at f)

pub lines_done : (input : List ℕ) (left : List (List ℕ)) (s s₀ : Session) → left ≡ [] → s₀ ≡ fresh_of → try_lines s left ≡ try_lines s₀ (lines_of input)
    → s ≡ try_lines fresh_of (lines_of input)
unfolding try_lines
lines_done input left s s₀ none f e = rw (none, f) at e

pub all_long : (input : List ℕ) (s : Session) → most_input < length input → s ≡ fresh_of → s ≡ try_all input
unfolding try_all
all_long input s h e = rw (lt-ltb most_input (length input) h) e

pub all_tried : (input : List ℕ) (s : Session) → length input ≤ most_input → s ≡ try_lines fresh_of (lines_of input) → s ≡ try_all input
unfolding try_all
all_tried input s h e = rw (le-ltb most_input (length input) h) e

-- ---- where the last call writes, and what it gives is given on

module _ {E : Type 0} (r : Result Session E) where
  pub ok_other : (s : Session) (kind : ℕ) (args : List ℕ) (t : Tried) → (kind ≡ 0x50 → ⊥) → t ≡ trylines_attempt s kind args
      → IfOk r (λ x. x ≡ t.session) → IfOk r (λ x. x ≡ try_bytes s kind args)
  ok_other s kind args t p q = IfOk-weaker r (λ x. x ≡ t.session) (λ x. x ≡ try_bytes s kind args) (λ x h. after_other s kind args t x p q h)

  pub ok_line : (s : Session) (line room left b args : List ℕ) (n kind : ℕ) → 21846 ≡ length room → take n left ≡ take (length room) (said_bytes (bytes_in line)) → b ≡ take n left
      → kind ≡ fields_byte b 0 → args ≡ drop 1 b → IfOk r (λ x. x ≡ try_bytes s kind args) → IfOk r (λ x. x ≡ try_line s line)
  ok_line s line room left b args n kind e f g h i =
      IfOk-weaker r (λ x. x ≡ try_bytes s kind args) (λ x. x ≡ try_line s line) (λ x q. line_tried s x line room left b args n kind e f g h i q)

  pub ok_tried : (input : List ℕ) → length input ≤ most_input → IfOk r (λ x. x ≡ try_lines fresh_of (lines_of input)) → IfOk r (λ x. x ≡ try_all input)
  ok_tried input h = IfOk-weaker r (λ x. x ≡ try_lines fresh_of (lines_of input)) (λ x. x ≡ try_all input) (λ x e. all_tried input x h e)
