-- Bytes written one behind the other, each that has room: laws of `WroteEach`.
use Prim.Native.Nat.{ℕ, ◌+◌, ◌≤◌, ◌<◌}
use mathlib.Core.List.{List, [], ◌++◌}
use mathlib.Core.Path.{◌≡◌, refl, sym, ap, ◌∙◌}
use native.Mathlib.Omega.{arith}
use native.Mathlib.Numerals.{add-one}
use native.Mathlib.Nat.{add_assoc, add-zero, add-suc}
use lib.ListN.{length, get_or, drop, set, length-append, length-set, drop_of_length-le}
use lib.Seq.{sets, length-sets, drop-cons}
use Rattle.buffer.proofs.Writing.{sets_append}
use Rattle.tryrecording.specs.Writing.{WroteEach}

-- ---- byte by byte: i of them are stored, and the rest behind them is all

pub bytes_start : (out d : List ℕ) (at : ℕ) → sets out (at + 0) (drop 0 d) ≡ sets out at d
bytes_start out d at = ap (λ (k : ℕ). sets out k d) (add-zero at)

pub bytes_long : (out out₀ left : List ℕ) (k v : ℕ) → length out ≡ length out₀ → left ≡ set out k v → length left ≡ length out₀
bytes_long out out₀ left k v e f = rw (f, length-set) e

module _ (out out₀ d : List ℕ) (at i : ℕ) (e : sets out (at + i) (drop i d) ≡ sets out₀ at d) where
  pub bytes_more : (left : List ℕ) → left ≡ set out (at + i) (get_or d i 0) → i < length d → sets left (at + (i + 1)) (drop (i + 1) d) ≡ sets out₀ at d
  bytes_more left f h = rw (f, add-one, add-suc, ← e, drop-cons d i 0 h)

  pub bytes_all : length d ≤ i → WroteEach d at out₀ (at + length d) out
  bytes_all h = record { behind = refl; bytes = rw (drop_of_length-le d h) at e }

-- e behind d
pub each_then : {d e : List ℕ} {i p q : ℕ} {l m k : List ℕ} → WroteEach d i l p m → WroteEach e p m q k → WroteEach (d ++ e) i l q k
each_then {d} {e} {i} {p} {q} {l} {m} {k} f g = record {
  behind = rw (g.behind, f.behind, length-append) (add_assoc i (length d) (length e));
  bytes = g.bytes ∙ ap (λ (x : List ℕ). sets x p e) f.bytes ∙ ap (λ (x : ℕ). sets (sets l i d) x e) f.behind ∙ sets_append l i d e;
}

-- what was written into keeps its length
pub each_long : (d out left o : List ℕ) (at r : ℕ) → length out ≡ length o → WroteEach d at out r left → length left ≡ length o
each_long d out left o at r h w = ap length w.bytes ∙ length-sets out at d ∙ h

-- nothing is written
pub each_none : (out : List ℕ) (at : ℕ) → WroteEach [] at out at out
each_none out at = record { behind = sym (add-zero at); bytes = refl }

-- d is still to be written from p on, and then all of e was written from a on over o
pub record Still (d : List ℕ) (p : ℕ) (out e : List ℕ) (a : ℕ) (o : List ℕ) : Type 0 where
  pub ends : p + length d ≡ a + length e
  pub bytes : sets out p d ≡ sets o a e

pub still_start : (e o : List ℕ) (a : ℕ) → Still e a o e a o
still_start e o a = record { ends = refl; bytes = refl }

pub still_on : {d x e o : List ℕ} {a p q : ℕ} {out left : List ℕ} → Still (x ++ d) p out e a o → WroteEach x p out q left → Still d q left e a o
still_on {d} {x} {e} {o} {a} {p} {q} {out} {left} g f = record {
  ends = omega (arith, f.behind, g.ends, length-append x d);
  bytes = ap (λ (l : List ℕ). sets l q d) f.bytes ∙ ap (λ (i : ℕ). sets (sets out p x) i d) f.behind ∙ sets_append out p x d ∙ g.bytes;
}

pub still_done : {e o out : List ℕ} {a p : ℕ} → Still [] p out e a o → WroteEach e a o p out
still_done {e} {o} {out} {a} {p} g = record { behind = sym (add-zero p) ∙ g.ends; bytes = g.bytes }
