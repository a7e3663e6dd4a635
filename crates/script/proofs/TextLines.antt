-- The line for each answer, and that it has at most 64 bytes.
use Prim.Native.Nat.{ℕ, ◌+◌, ◌/◌, ◌%◌, ◌≤◌, ◌<◌}
use Rattle.std.specs.Prelude.{Result, Ok, Err, ℕ}
use mathlib.Core.Bool.{Bool, true, false, cond}
use mathlib.Core.List.{List, [], ◌∷◌, ◌++◌}
use mathlib.Core.Path.{◌≡◌, refl, sym, ap, ◌∙◌}
use native.Mathlib.Omega.{arith}
use lib.Dec.{ltb}
use lib.ListN.{length, take, drop, replicate, length-append, length-take}
use lib.Seq.{take_at}
use borrow.Author.Tests.{lt-ltb, le-ltb}
use Rattle.wire.specs.Promise.{Lending}
use Rattle.wire.specs.Numbers.{number_of, number_by}
use Rattle.buffer.specs.Buffer.{at_start, written}
use Rattle.wire.specs.declared.refusal.Refusal.{Refusal}
use Rattle.wire.proofs.Impossible.{impossible}
use Rattle.wire.proofs.Numbers.{number_small}
use Rattle.buffer.proofs.Writing.{written_long}
use Rattle.status.specs.Status.{most_reply}
use Rattle.text.specs.Lines.{newline}
use Rattle.text.specs.Digits.{decimal_of}
use Rattle.hexadecimal.specs.Hex.{hex_line}
use Rattle.hexadecimal.proofs.Puts.{length_line}
use Rattle.script.specs.Answers.{refused_word, number_end, refused_line}
use Rattle.buffer.specs.Wrote.{Wrote}
use Rattle.script.specs.Line.{far, WroteLine}
use Rattle.buffer.proofs.Appends.{wrote_then}

-- ---- a number

module _ {at r : ℕ} {out left : List ℕ} (n : ℕ) where
  pub number_one : n < 10 → Wrote ((48 + n) ∷ newline ∷ []) at out r left → Wrote (number_end n) at out r left
  unfolding number_end decimal_of
  number_one h f = rw (lt-ltb n 10 h) f

  pub number_two : 10 ≤ n → Wrote ((48 + n / 10) ∷ (48 + n % 10) ∷ newline ∷ []) at out r left → Wrote (number_end n) at out r left
  unfolding number_end decimal_of
  number_two h f = rw (le-ltb n 10 h) f

number_short : (n : ℕ) → length (number_end n) ≤ 3
unfolding number_end decimal_of
number_short n = go (ltb n 10)
  where
    go : (t : Bool) → length (cond t ((48 + n) ∷ []) ((48 + n / 10) ∷ (48 + n % 10) ∷ []) ++ (newline ∷ [])) ≤ 3
    go true = omega arith
    go false = omega arith

-- ---- a refusal

pub refused_short : (why : Refusal) → length (refused_line why) ≤ 11
refused_short why = omega (arith, length-append refused_word (number_end (number_of why)), number_short (number_of why))

pub number_fits : (why : Refusal) (n : ℕ) → n ≡ number_of why → n < 100
number_fits why n e = rw e (number_small why)

module _ (why : Refusal) (n at p : ℕ) (out m : List ℕ) (e : n ≡ number_of why) (f : Wrote refused_word at out p m) where
  pub word_room : at ≤ far → p ≤ far + 64
  word_room h = omega (arith, f.behind)

  pub refused_done : (r : ℕ) (left : List ℕ) → Wrote (number_end n) p m r left → WroteLine (refused_line why) at out r left
  refused_done r left g =
      record { wrote = wrote_then f (rw e at g); near = omega (arith, refused_short why) }

-- ---- a reply

pub line_short : (d : List ℕ) → length d ≤ most_reply → length (hex_line d) ≤ 57
line_short [] h = omega arith
line_short (b ∷ bs) h = omega (arith, length_line (b ∷ bs) (omega arith))

laid : (d : List ℕ) → length d ≤ most_reply → written (hex_line d) (replicate 64 0) ≡ at_start (hex_line d) (replicate 64 0)
unfolding written
laid d h = rw (le-ltb 64 (length (hex_line d)) (omega (arith, line_short d h)))

module _ (d l : List ℕ) (b : Result ℕ Refusal) (p : Lending number_by b l (written (hex_line d) (replicate 64 0))) where
  pub reply_room : (n : ℕ) (part : List ℕ) → part ≡ take n l → length part ≤ 64
  reply_room n part e =
      let k : length l ≡ 64 = ap (λ (x : List ℕ). length x) p.leaves ∙ written_long (hex_line d) (replicate 64 0) in
      rw e (omega (arith, length-take n l))

  module _ (h : length d ≤ most_reply) where
    pub reply_done : (n at r : ℕ) (part out left : List ℕ) → b ≡ Ok n → part ≡ take n l → Wrote part at out r left → WroteLine (hex_line d) at out r left
    reply_done n at r part out left e f w =
        let a : Ok n ≡ Ok (length (hex_line d)) = sym e ∙ p.answer ∙ ap (λ o. o.answer) (laid d h) in
        let en : n ≡ length (hex_line d) = cc in
        let el : l ≡ hex_line d ++ drop (length (hex_line d)) (replicate 64 0) = p.leaves ∙ ap (λ o. o.left) (laid d h) in
        let ep : part ≡ hex_line d = f ∙ rw (en, el) (take_at (hex_line d) (drop (length (hex_line d)) (replicate 64 0)) (length (hex_line d)) refl) in
        record { wrote = rw ep at w; near = omega (arith, line_short d h) }

    -- 64 bytes are enough
    pub reply_refused : (why : Refusal) (at : ℕ) (out : List ℕ) → b ≡ Err why → WroteLine (hex_line d) at out at out
    reply_refused why at out e =
        let a : Err why ≡ Ok (length (hex_line d)) = sym e ∙ p.answer ∙ ap (λ o. o.answer) (laid d h) in
        impossible cc
