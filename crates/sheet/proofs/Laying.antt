-- What is made, written part by part: a part is written, and what is left to write still has room behind it.
use Prim.Native.Nat.{ℕ, ◌+◌, ◌≤◌}
use mathlib.Core.List.{List, ◌++◌}
use mathlib.Core.Path.{◌≡◌, ap, ◌∙◌}
use native.Mathlib.Omega.{arith}
use lib.ListN.{length, length-append}
use lib.Seq.{sets}
use Rattle.buffer.specs.Wrote.{Wrote}
use Rattle.buffer.proofs.Writing.{sets_append}
use Rattle.sheet.specs.Sheet.{Made, made}
use Rattle.sheet.specs.Reading.{HasRoom, made_from}

-- m is still to be written from p on, has room there, and then all is in o
pub record Laying {F : Type 0} (m : Made F) (p : ℕ) (out o : List ℕ) : Type 0 where
  pub room : HasRoom m p (length out)
  pub laid : made_from m p out ≡ o

pub laid_on : {F : Type 0} {x d out left o : List ℕ} {p q : ℕ} → p + length (x ++ d) ≤ length out → sets out p (x ++ d) ≡ o → Wrote x p out q left
    → Laying {F = F} (made d) q left o
laid_on {F} {x} {d} {out} {left} {o} {p} {q} h e w = record {
  room = omega (arith, w.behind, w.long, length-append x d);
  laid =
      ap (λ (l : List ℕ). sets l q d) (w.bytes (omega (arith, length-append x d)))
      ∙ ap (λ (i : ℕ). sets (sets out p x) i d) w.behind
      ∙ sets_append out p x d
      ∙ e;
}

-- what is written keeps the length
pub wrote_kept : (x out left : List ℕ) (p q n : ℕ) → Wrote x p out q left → length out ≡ n → length left ≡ n
wrote_kept x out left p q n w e = w.long ∙ e
