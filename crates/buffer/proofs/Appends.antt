-- Parts of a text or packet, written one behind the other: laws of `Wrote`.
use Rattle.std.proofs.Common.{◌≡◌, ℕ, ◌+◌, ◌≤◌, Bool, true, false, ltb, List, [], ◌++◌, length, sym, refl, ap, ◌∙◌, add_assoc, zero-add, arith, length-append, ltb-false, ltb-true, le-ltb}
use lib.Seq.{sets, sets-eq}
use Rattle.buffer.specs.Buffer.{put_of}
use Rattle.buffer.specs.Wrote.{Wrote}
use Rattle.buffer.proofs.Writing.{put_not, length_put, sets_append}

put_sets : (out : List ℕ) (at : ℕ) (d : List ℕ) → at + length d ≤ length out → put_of out at d ≡ sets out at d
unfolding put_of
put_sets out at d h = rw (le-ltb (length out) (at + length d) h) (sym (sets-eq d out at h))

put_keeps : (out : List ℕ) (at : ℕ) (d : List ℕ) → length (put_of out at d) ≡ length out
put_keeps out at d = go (ltb (length out) (at + length d)) refl
  where
    go : (t : Bool) → ltb (length out) (at + length d) ≡ t → length (put_of out at d) ≡ length out
    go true e = ap (λ (l : List ℕ). length l) (sym (put_not out at d (ltb-true (length out) (at + length d) e)))
    go false e = length_put out at d (ltb-false (length out) (at + length d) e)

pub put_wrote : (out left d : List ℕ) (at : ℕ) → left ≡ put_of out at d → Wrote d at out (at + length d) left
put_wrote out left d at e = record {
  behind = refl;
  bytes = λ h. e ∙ put_sets out at d h;
  long = ap (λ (l : List ℕ). length l) e ∙ put_keeps out at d;
}

-- e behind d
pub wrote_then : {d e : List ℕ} {i p q : ℕ} {l m k : List ℕ} → Wrote d i l p m → Wrote e p m q k → Wrote (d ++ e) i l q k
wrote_then {d} {e} {i} {p} {q} {l} {m} {k} f g = record {
  behind = rw (g.behind, f.behind, length-append) (add_assoc i (length d) (length e));
  bytes = λ h. both (rw length-append at h);
  long = g.long ∙ f.long;
} where
  both : i + (length d + length e) ≤ length l → k ≡ sets l i (d ++ e)
  both h =
      g.bytes (omega (arith, f.behind, f.long))
      ∙ ap (λ (x : List ℕ). sets x p e) (f.bytes (omega arith))
      ∙ ap (λ (x : ℕ). sets (sets l i d) x e) f.behind
      ∙ sets_append l i d e

-- d is still to be written from p on, and then all of e was written from the start of o on
pub record Going (d : List ℕ) (p : ℕ) (out e o : List ℕ) : Type 0 where
  pub ends : p + length d ≡ length e
  pub bytes : length e ≤ length o → sets out p d ≡ sets o 0 e
  pub long : length out ≡ length o

pub going_start : {d out : List ℕ} → Going d 0 out d out
going_start {d} = record { ends = zero-add (length d); bytes = λ h. refl; long = refl }

pub going_on : {d x e o : List ℕ} {p q : ℕ} {out left : List ℕ} → Going (x ++ d) p out e o → Wrote x p out q left → Going d q left e o
going_on {d} {x} {e} {o} {p} {q} {out} {left} g f = record {
  ends = omega (arith, f.behind, g.ends, length-append x d);
  bytes = λ h. both h (omega (arith, g.ends, g.long, length-append x d));
  long = f.long ∙ g.long;
} where
  both : length e ≤ length o → p + length x ≤ length out → sets left q d ≡ sets o 0 e
  both h k = ap (λ (l : List ℕ). sets l q d) (f.bytes k) ∙ ap (λ (i : ℕ). sets (sets out p x) i d) f.behind ∙ sets_append out p x d ∙ g.bytes h

pub going_done : {p : ℕ} {out e o : List ℕ} (d : List ℕ) → d ≡ [] → Going d p out e o → Wrote e 0 o p out
going_done {p} {out} {e} {o} d h g =
    let ends : p + 0 ≡ length e = rw h at g.ends in
    record { behind = omega arith; bytes = λ k. rw h at (g.bytes (omega arith)); long = g.long }
