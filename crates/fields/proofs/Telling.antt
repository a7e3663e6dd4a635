-- What the exits of the functions on kinds need, in the form in which the code gives it.
use Rattle.std.proofs.Common.{◌≡◌, ℕ, zero, suc, ◌+◌, ◌<◌, ◌≤◌, ◌&&◌, List, [], ◌∷◌, length, get_or, drop, map, drop-drop, get_or-drop, add-zero, refl, ap, ◌∙◌, le_antisymm, arith, inl, inr}
use Rattle.std.proofs.lemmas.Bool.{cases_lt}
use Rattle.std.proofs.lemmas.List.FromFn.{fill_by_all}
use Rattle.std.specs.Array.{IsFromFnResultFrom}
use Rattle.std.specs.Fn.{Called}
use denote.Param.Members.{Mut}
use Rattle.std.specs.List.{list_all, range_with_len}
use Rattle.wire.specs.declared.kind.Kind.{Kind}
use Rattle.wire.specs.declared.kind.Kind.TheVariants.{Gate}
use Rattle.fields.specs.Field.{fields_byte}
use Rattle.fields.specs.Kind.{is_kind, read_kind, are_kinds, first_kind, kind_length, read_kinds}
use Rattle.fields.specs.Record.{records_from}

-- byte by byte
pub all_kinds : (s : List ℕ) → list_all is_kind s ≡ are_kinds s
unfolding are_kinds
all_kinds [] = refl
all_kinds (b ∷ s) = ap (λ t. is_kind b && t) (all_kinds s)

-- kind by kind
at_each : (n i : ℕ) (s : List ℕ) → map (λ k. read_kind (fields_byte s k)) (range_with_len i n) ≡ map first_kind (records_from kind_length n (drop i s))
unfolding records_from
at_each zero i s = refl
at_each (suc n) i s = rw (drop-drop 1 i s, ← (at_each n (i + 1) s), get_or-drop, add-zero) refl

-- calls at each index from i on, of a closure that stays as it is and gives what h gives
each_from : {F B : Type 0} (g : Mut F (ℕ × Unit {0}) B) (h : ℕ → B) (f : F) (ys : List B) (n i : ℕ) → ((y : B) (j : ℕ) (q : F) → Called g f (j, tt) y q → (q ≡ f) × (y ≡ h j))
    → IsFromFnResultFrom g f ys i n → (k : ℕ) (d : B) → i ≤ k → k < i + n → get_or ys k d ≡ h k
each_from g h f ys zero i told r k d a b = absurd (omega arith)
each_from g h f ys (suc n) i told (q, y, e, c, r) k d a b =
    let t : (q ≡ f) × (y ≡ h i) = told y i q c in
    elim (cases_lt i k) [
      | inl p ↦ each_from g h f ys n (i + 1) told (rw t.0 at r) k d (omega arith) (omega arith)
      | inr p ↦ let same : k ≡ i = le_antisymm p a in rw same (e.1 d ∙ t.1)
    ]

pub kinds_each : {F : Type 0} (g : Mut F (ℕ × Unit {0}) Kind) (f : F) (s : List ℕ) (l : List Kind) → length l ≡ 31
    → ((k : Kind) (j : ℕ) (q : F) → Called g f (j, tt) k q → (q ≡ f) × (k ≡ read_kind (fields_byte s j))) → IsFromFnResultFrom g f l 0 31 → l ≡ read_kinds s
unfolding read_kinds
kinds_each g f s l e told r =
    fill_by_all (λ k. read_kind (fields_byte s k)) l 31 Gate e (λ k h. each_from g (λ j. read_kind (fields_byte s j)) f l 31 0 told r k Gate (omega arith) (omega arith)) ∙ at_each 31 0 s
