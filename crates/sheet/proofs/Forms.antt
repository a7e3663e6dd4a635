-- What imports is of the form, and conversely; the number of a line at fault is that of the first.
use Prim.Native.Nat.{ℕ, suc, ◌+◌, ◌-◌, ◌*◌, ◌/◌, ◌≤◌, ◌<◌}
use mathlib.Core.Bool.{Bool, true, false, not, cond, false≢true}
use mathlib.Core.List.{List, [], ◌∷◌, ◌++◌}
use mathlib.Core.Path.{◌≡◌, refl, sym, ap, ◌∙◌, subst}
use native.Mathlib.Omega.{arith}
use native.Mathlib.Nat.{not-suc-le-zero}
use lib.Dec.{eqb, ltb}
use lib.ListN.{length, drop, get_or}
use borrow.Author.Tests.{lt-ltb, le-ltb, ltb-true, ltb-false, eq-eqb, eqb-true, ne_eqb, not-false}
use Rattle.wire.proofs.Choice.{chose_first, chose_second}
use Rattle.wire.proofs.Impossible.{impossible}
use Rattle.text.specs.Lines.{grown}
use Rattle.hexadecimal.specs.Digits.{digit_of, character_of}
use Rattle.hexadecimal.specs.Hex.{space, Content, bytes, malformed, before}
use Rattle.hexadecimal.proofs.Meaning.{digit_char, char_digit}
use Rattle.sheet.specs.Line.{hex_word, starts_hex, either_digit, byte_in, numerals_of, numeral_bytes, line_in}
use Rattle.sheet.specs.Sheet.{Made, made, fault, sheet_packet, on_line, packets_in}
use Rattle.sheet.specs.Form.{DigitForm, decimal, capital, small, NumeralForm, one, two, NumeralsForm, last, more, LineForm, SheetForm, end, next, FirstFault, here, later}
use Rattle.sheet.proofs.Numerals.{digit_no_space, one_says, two_says}
use Rattle.sheet.proofs.Said.{not_bytes, line_spoken}

-- ---- numerals, with a space between each two

abbrev spaced : List (List ℕ) → List ℕ
spaced [] = []
spaced (w ∷ []) = w
spaced (w ∷ v ∷ ws) = w ++ space ∷ spaced (v ∷ ws)

spaced_grown : (b : ℕ) (x : List (List ℕ)) → spaced (grown b x) ≡ b ∷ spaced x
spaced_grown b [] = refl
spaced_grown b (w ∷ []) = refl
spaced_grown b (w ∷ v ∷ ws) = refl

spaced_space : (x : List (List ℕ)) → 1 ≤ length x → spaced ([] ∷ x) ≡ space ∷ spaced x
spaced_space [] h = absurd (not-suc-le-zero h)
spaced_space (w ∷ ws) h = refl

grown_some : (b : ℕ) (x : List (List ℕ)) → 1 ≤ length (grown b x)
grown_some b [] = omega arith
grown_some b (w ∷ ws) = omega arith

some_numeral : (s : List ℕ) → 1 ≤ length (numerals_of s)
some_numeral [] = omega arith
some_numeral (b ∷ s) = by_space (eqb b space)
  where
    by_space : (t : Bool) → 1 ≤ length (cond t ([] ∷ numerals_of s) (grown b (numerals_of s)))
    by_space true = omega arith
    by_space false = grown_some b (numerals_of s)

-- nothing is lost between the spaces
spaced_numerals : (s : List ℕ) → spaced (numerals_of s) ≡ s
spaced_numerals [] = refl
spaced_numerals (b ∷ s) = by_space (eqb b space) refl (spaced_numerals s)
  where
    by_space : (t : Bool) → eqb b space ≡ t → spaced (numerals_of s) ≡ s → spaced (cond t ([] ∷ numerals_of s) (grown b (numerals_of s))) ≡ b ∷ s
    by_space true e h = spaced_space (numerals_of s) (some_numeral s) ∙ ap (λ (l : List ℕ). space ∷ l) h ∙ ap (λ (c : ℕ). c ∷ s) (sym (eqb-true b space e))
    by_space false e h = spaced_grown b (numerals_of s) ∙ ap (λ (l : List ℕ). b ∷ l) h

no_byte : {A : Type 0} → 256 < 256 → A
no_byte h = absurd (let z : ⊥ = omega arith in z)

-- ---- a digit

-- the capital digit of a value
pub value_form : (v : ℕ) → v < 16 → DigitForm (character_of v) v
unfolding character_of
value_form v h = by_test (ltb v 10) refl
  where
    by_test : (t : Bool) → ltb v 10 ≡ t → DigitForm (cond t (48 + v) (55 + v)) v
    by_test true e = decimal v (ltb-true v 10 e)
    by_test false e = capital v (ltb-false v 10 e) h

-- the character of a value, if it is a letter
letter : (v b : ℕ) → 65 ≤ b → character_of v ≡ b → v < 16 → (10 ≤ v) × (b ≡ 55 + v)
unfolding character_of
letter v b h e k = by_test (ltb v 10) refl e
  where
    by_test : (t : Bool) → ltb v 10 ≡ t → cond t (48 + v) (55 + v) ≡ b → (10 ≤ v) × (b ≡ 55 + v)
    by_test true f e = absurd (let x : v < 10 = ltb-true v 10 f in let z : ⊥ = omega arith in z)
    by_test false f e = (ltb-false v 10 f, sym e)

-- what has a value is a digit
digit_form : (a : ℕ) → either_digit a < 16 → DigitForm a (either_digit a)
unfolding either_digit
digit_form a h = by_case (ltb a 97) refl h
  where
    by_case : (t : Bool) → ltb a 97 ≡ t → cond t (digit_of a) (digit_of (a - 32)) < 16 → DigitForm a (cond t (digit_of a) (digit_of (a - 32)))
    by_case true e h = subst (λ (b : ℕ). DigitForm b (digit_of a)) (char_digit a (omega arith)) (value_form (digit_of a) h)
    by_case false e h =
        let k : 97 ≤ a = ltb-false a 97 e in
        let c = letter (digit_of (a - 32)) (a - 32) (omega arith) (char_digit (a - 32) (omega arith)) h in
        let z : 87 + digit_of (a - 32) ≡ a = omega (arith, c.1) in
        subst (λ (b : ℕ). DigitForm b (digit_of (a - 32))) z (small (digit_of (a - 32)) c.0 h)

-- and a digit has its value
char_value : (v : ℕ) → v < 16 → digit_of (cond (ltb v 10) (48 + v) (55 + v)) ≡ v
unfolding character_of
char_value v h = digit_char v h

pub form_digit : {a v : ℕ} → DigitForm a v → (either_digit a ≡ v) × (v < 16)
unfolding either_digit
form_digit (decimal v h) = (rw (lt-ltb (48 + v) 97 (omega arith)) (rw (lt-ltb v 10 h) at (char_value v (omega arith))), omega arith)
form_digit (capital v h k) = (rw (lt-ltb (55 + v) 97 (omega arith)) (rw (le-ltb v 10 h) at (char_value v k)), k)
form_digit (small v h k) =
    let z : 87 + v - 32 ≡ 55 + v = omega arith in
    (rw (le-ltb (87 + v) 97 (omega arith), z) (rw (le-ltb v 10 h) at (char_value v k)), k)

-- ---- a numeral

numeral_form : (w : List ℕ) → byte_in w < 256 → NumeralForm w (byte_in w)
numeral_form [] h = no_byte h
numeral_form (a ∷ []) h = by_digit (ltb (either_digit a) 16) refl h
  where
    by_digit : (t : Bool) → ltb (either_digit a) 16 ≡ t → cond t (either_digit a) 256 < 256 → NumeralForm (a ∷ []) (cond t (either_digit a) 256)
    by_digit true e h = one (digit_form a (ltb-true (either_digit a) 16 e))
    by_digit false e h = no_byte h
numeral_form (a ∷ b ∷ []) h = by_digits (ltb (either_digit a) 16) (ltb (either_digit b) 16) refl refl h
  where
    by_digits : (t u : Bool) → ltb (either_digit a) 16 ≡ t → ltb (either_digit b) 16 ≡ u → cond t (cond u (either_digit a * 16 + either_digit b) 256) 256 < 256
        → NumeralForm (a ∷ b ∷ []) (cond t (cond u (either_digit a * 16 + either_digit b) 256) 256)
    by_digits true true e f h = two (digit_form a (ltb-true (either_digit a) 16 e)) (digit_form b (ltb-true (either_digit b) 16 f))
    by_digits true false e f h = no_byte h
    by_digits false u e f h = no_byte h
numeral_form (a ∷ b ∷ c ∷ w) h = no_byte h

numerals_form : (w : List ℕ) (ws : List (List ℕ)) (d : List ℕ) → numeral_bytes (w ∷ ws) ≡ bytes d → NumeralsForm (spaced (w ∷ ws)) d
numerals_form w [] d e =
    let t = chose_first (ltb (byte_in w) 256) e (not_bytes d) in
    let z : d ≡ byte_in w ∷ [] = cc t.1 in
    rw z (last (numeral_form w (ltb-true (byte_in w) 256 t.0)))
numerals_form w (v ∷ vs) d e =
    let t = chose_first (ltb (byte_in w) 256) e (not_bytes d) in
    behind (numeral_bytes (v ∷ vs)) (λ m. numerals_form v vs m) t.1 (numeral_form w (ltb-true (byte_in w) 256 t.0))
  where
    behind : (c : Content) → ((m : List ℕ) → c ≡ bytes m → NumeralsForm (spaced (v ∷ vs)) m) → before (byte_in w) c ≡ bytes d → NumeralForm w (byte_in w)
        → NumeralsForm (spaced (w ∷ v ∷ vs)) d
    behind malformed f e h = impossible cc
    behind (bytes m) f e h =
        let z : d ≡ byte_in w ∷ m = cc in
        rw z (more h (f m refl))

spoken_form : (s d : List ℕ) → numeral_bytes (numerals_of s) ≡ bytes d → NumeralsForm s d
spoken_form s d e = go (numerals_of s) (spaced_numerals s) (some_numeral s) e
  where
    go : (x : List (List ℕ)) → spaced x ≡ s → 1 ≤ length x → numeral_bytes x ≡ bytes d → NumeralsForm s d
    go [] f h e = absurd (not-suc-le-zero h)
    go (w ∷ ws) f h e = rw f at (numerals_form w ws d e)

-- ---- and what is of the form is read

no_space : {a v : ℕ} → DigitForm a v → eqb a space ≡ false
no_space {a} f = ne_eqb a space (digit_no_space a (omega (arith, (form_digit f).0, (form_digit f).1)))

one_reads : {a v : ℕ} → DigitForm a v → (ws : List (List ℕ)) → numeral_bytes ((a ∷ []) ∷ ws) ≡ before v (numeral_bytes ws)
one_reads {a} f ws =
    let k = form_digit f in
    one_says a ws (omega (arith, k.0, k.1)) ∙ ap (λ (x : ℕ). before x (numeral_bytes ws)) k.0

two_reads : {a b v w : ℕ} → DigitForm a v → DigitForm b w → (ws : List (List ℕ)) → numeral_bytes ((a ∷ b ∷ []) ∷ ws) ≡ before (v * 16 + w) (numeral_bytes ws)
two_reads {a} {b} {v} f g ws =
    let k = form_digit f in
    let l = form_digit g in
    two_says a b ws (omega (arith, k.0, k.1)) (omega (arith, l.0, l.1))
    ∙ ap (λ (x : ℕ). before (x * 16 + either_digit b) (numeral_bytes ws)) k.0
    ∙ ap (λ (x : ℕ). before (v * 16 + x) (numeral_bytes ws)) l.0

form_spoken : {s d : List ℕ} → NumeralsForm s d → numeral_bytes (numerals_of s) ≡ bytes d
form_spoken (last (one f)) = rw (no_space f) (one_reads f [])
form_spoken (last (two f g)) = rw (no_space f, no_space g) (two_reads f g [])
form_spoken (more {s = s} (one {v = v} f) g) = rw (no_space f) (one_reads f (numerals_of s) ∙ ap (before v) (form_spoken g))
form_spoken (more {s = s} (two {v = v} {w = w} f h) g) =
    rw (no_space f, no_space h) (two_reads f h (numerals_of s) ∙ ap (before (v * 16 + w)) (form_spoken g))

-- ---- a line

four : (l : List ℕ) → 4 ≤ length l → get_or l 0 0 ≡ 72 → get_or l 1 0 ≡ 69 → get_or l 2 0 ≡ 88 → get_or l 3 0 ≡ space → l ≡ hex_word ++ drop 4 l
four [] h a b c d = absurd (not-suc-le-zero h)
four (w ∷ []) h a b c d = absurd (omega arith)
four (w ∷ x ∷ []) h a b c d = absurd (omega arith)
four (w ∷ x ∷ y ∷ []) h a b c d = absurd (omega arith)
four (w ∷ x ∷ y ∷ z ∷ l) h a b c d = rw (a, b, c, d)

starts_word : (l : List ℕ) → starts_hex l ≡ true → l ≡ hex_word ++ drop 4 l
unfolding starts_hex
starts_word l e =
    let t = chose_second (ltb (length l) 4) e false≢true in
    let u = chose_second (not (eqb (get_or l 0 0) 72)) t.1 false≢true in
    let v = chose_second (not (eqb (get_or l 1 0) 69)) u.1 false≢true in
    let w = chose_second (not (eqb (get_or l 2 0) 88)) v.1 false≢true in
    four l (ltb-false (length l) 4 t.0) (eqb-true (get_or l 0 0) 72 (not-false (eqb (get_or l 0 0) 72) u.0)) (eqb-true (get_or l 1 0) 69 (not-false (eqb (get_or l 1 0) 69) v.0))
    (eqb-true (get_or l 2 0) 88 (not-false (eqb (get_or l 2 0) 88) w.0)) (eqb-true (get_or l 3 0) space w.1)

word_starts : (r : List ℕ) → starts_hex (hex_word ++ r) ≡ true
unfolding starts_hex
word_starts r = rw (le-ltb (length (hex_word ++ r)) 4 (omega arith))

-- a line that says some bytes is of the form
pub line_formed : (l d : List ℕ) → line_in l ≡ bytes d → LineForm l d
line_formed l d e =
    let t = line_spoken l d e in
    record { rest = drop 4 l; word = starts_word l t.starts; numerals = spoken_form (drop 4 l) d t.numerals; count = t.count }

-- and one of the form says them
pub form_line : {l d : List ℕ} → LineForm l d → line_in l ≡ bytes d
unfolding line_in
form_line {l} {d} f =
    rw (f.word, word_starts f.rest, form_spoken f.numerals, eq-eqb (length d) (2 + get_or d 1 0 / 16) f.count)

-- ---- a sheet

pub sheet_formed : (ls : List (List ℕ)) (p : List ℕ) → packets_in ls ≡ made p → SheetForm ls p
unfolding packets_in
sheet_formed [] p e = let z : p ≡ [] = cc in rw z end
sheet_formed (l ∷ ls) p e = by_line_lem (line_in l) (packets_in ls) refl (λ q. sheet_formed ls q) e
  where
    by_line_lem : (c : Content) (m : Made ℕ) → line_in l ≡ c → ((q : List ℕ) → m ≡ made q → SheetForm ls q) → on_line c m ≡ made p → SheetForm (l ∷ ls) p
    by_line_lem malformed m f ih e = impossible cc
    by_line_lem (bytes d) (fault k) f ih e = impossible cc
    by_line_lem (bytes d) (made q) f ih e = let z : p ≡ sheet_packet d ++ q = cc in rw z (next (line_formed l d f) (ih q refl))

pub form_sheet : {ls : List (List ℕ)} {p : List ℕ} → SheetForm ls p → packets_in ls ≡ made p
unfolding packets_in
form_sheet end = refl
form_sheet (next f g) = rw (form_line f, form_sheet g)

-- ---- the first line at fault

pub fault_first : (ls : List (List ℕ)) (k : ℕ) → packets_in ls ≡ fault k → FirstFault ls k
unfolding packets_in
fault_first [] k e = impossible cc
fault_first (l ∷ ls) k e = by_line_lem (line_in l) (packets_in ls) refl (λ j. fault_first ls j) e
  where
    by_line_lem : (c : Content) (m : Made ℕ) → line_in l ≡ c → ((j : ℕ) → m ≡ fault j → FirstFault ls j) → on_line c m ≡ fault k → FirstFault (l ∷ ls) k
    by_line_lem malformed m f ih e = let z : k ≡ 1 = cc in rw z (here (λ d g. not_bytes d (sym f ∙ form_line g)))
    by_line_lem (bytes d) (made q) f ih e = impossible cc
    by_line_lem (bytes d) (fault j) f ih e = let z : k ≡ suc j = cc in rw z (later (line_formed l d f) (ih j refl))

no_form : (l : List ℕ) (c : Content) → line_in l ≡ c → ((d : List ℕ) → LineForm l d → ⊥) → line_in l ≡ malformed
no_form l malformed f n = f
no_form l (bytes d) f n = absurd (n d (line_formed l d f))

pub first_fault : {ls : List (List ℕ)} {k : ℕ} → FirstFault ls k → packets_in ls ≡ fault k
unfolding packets_in
first_fault (here {l = l} n) = rw (no_form l (line_in l) refl n)
first_fault (later f g) = rw (form_line f, first_fault g)
