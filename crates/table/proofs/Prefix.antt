-- The first n elements of an array in a local are lent as a `&mut [T]` for a lifetime κ' of a call, and come back. It says nothing of the crate.
-- Assumes `Logic`.
use mathlib.Core.Path.{◌≡◌, refl, sym}
use Prim.Native.Nat.{ℕ, ◌+◌}
use mathlib.Core.List.{List, [], ◌∷◌, ◌++◌}
use lib.ListN.{length, take, drop, take-append-drop}
use seplogic.Ra.Ura.{Ura}
use base.Fraction.{full_share}
use mir.Syntax.{Ty, Lifetime, ty_array}
use mir.Val.{Val}
use base.Logic.{ent, sep, ex}
use base.Fml.{Lft, GName, Fml, fsep, fat, fdead, flent}
use types.Logic.{Logic, sem}
use types.Kit.{‵, ◌⊛◌, some, later, ◌$◌, ◌∵◌, !, qed, move, use1, use2, use3, drop as let_go, split, pick, rewrite, fsplit, fjoin, fpick, fpack, feq_i, frame, await, updating, now as at_once, show, done}
use types.SemTy.{cells, Arr}
use types.Share.{arr_parts}
use denote.RattleType.{RattleType}
use denote.Laws.{Is, shows, Tells, Makes}
use denote.Memory.{cell_at, lone, part_at, part_of, mem, shares}
use denote.Array.{Array, array_vals, Array-Tells, Array-Makes}
use denote.ArrayMemory.{Single, Array-apart, Array-whole}
use denote.Ref.{MutBor}
use denote.Slice.{slice_val, MutSlice, Room, finally}
use denote.Lend.{Held, lends_slice, slice_back}
use denote.Index.{place, row, whole_in, whole_out}
use denote.Steps.{only, owned, peeks, nothing}

module _ {M : Type 1} {𝓤 : Ura M} (𝓛 : Logic 𝓤) (R : RattleType) (b : ℕ) where
  -- a row of elements is cut, and put together
  cut : (xs ys : List R.Denot) (o : ℕ) → ent 𝓤 (sem 𝓛 (cells (mem R) (xs ++ ys) b o)) (sep 𝓤 (sem 𝓛 (cells (mem R) xs b o)) (sem 𝓛 (cells (mem R) ys b (place (mem R).size o (length xs)))))
  cut [] ys o = qed 𝓛 (‵ (cells (mem R) ys b o) ∷ []) ∵ nothing ! $ done !
  cut (x ∷ xs) ys o =
      qed 𝓛 (‵ (cells (mem R) (x ∷ (xs ++ ys)) b o) ∷ []) ∵ fsplit ! $ move ! (1 ∷ []) $
      use1 𝓛 (‵ (cells (mem R) xs b (o + (mem R).size)) ⊛ ‵ (cells (mem R) ys b (place (mem R).size (o + (mem R).size) (length xs)))) (cut xs ys (o + (mem R).size)) $ split ! $ move ! (2 ∷ 0 ∷ []) $ fjoin ! $ done !

  glue : (xs ys : List R.Denot) (o : ℕ) → ent 𝓤 (sep 𝓤 (sem 𝓛 (cells (mem R) xs b o)) (sem 𝓛 (cells (mem R) ys b (place (mem R).size o (length xs))))) (sem 𝓛 (cells (mem R) (xs ++ ys) b o))
  glue [] ys o = qed 𝓛 (‵ (cells (mem R) [] b o) ∷ ‵ (cells (mem R) ys b o) ∷ []) ∵ let_go ! $ done !
  glue (x ∷ xs) ys o =
      qed 𝓛 (‵ (cells (mem R) (x ∷ xs) b o) ∷ ‵ (cells (mem R) ys b (place (mem R).size (o + (mem R).size) (length xs))) ∷ []) ∵ fsplit ! $ move ! (1 ∷ 2 ∷ []) $
      use2 𝓛 (‵ (cells (mem R) (xs ++ ys) b (o + (mem R).size))) (glue xs ys (o + (mem R).size)) $ move ! (1 ∷ 0 ∷ []) $ fjoin ! $ done !

module _ (R : RattleType) (m : ℕ) (κ' : Lft) (b : ℕ) (xs : List R.Denot) (n : ℕ) where
  abbrev pub arr : Ty
  arr = ty_array (lone R.mir) m

  abbrev pub front : GName → MutBor (List R.Denot)
  front δ = record { ref_ptr = (b, 0); ghost_name = δ; now = take n xs }

  -- what the local's owner keeps meanwhile
  abbrev pub LentFront : GName → Fml
  LentFront δ = fsep (flent κ' (Held R (length (take n xs)) b 0 δ)) (cells (mem R) (drop n xs) b (place (mem R).size 0 (length (take n xs))))

  module _ {M : Type 1} {𝓤 : Ura M} (𝓛 : Logic 𝓤) (ℓ : Lifetime) (one : Single R.mir) (mk : Makes 𝓛 R (Is R)) where
    open 𝓛 use {H}

    pub lends_front : (v : Val) → Is (Array R m) xs (v ∷ []) → Room R (length (take n xs))
        → ent 𝓤 (sem 𝓛 (fat full_share arr b 0 v)) (H.⇛ (ex 𝓤 (λ (δ : GName). sep 𝓤 (sem 𝓛 ((MutSlice ℓ κ' R).own_val (front δ) (slice_val (b, 0) (length (take n xs)) ∷ []))) (sem 𝓛 (LentFront δ)))))
    unfolding part_of
    lends_front v is room =
        qed 𝓛 (‵ (fat full_share arr b 0 v) ∷ []) ∵ updating ! $ use1 𝓛 (‵ (cell_at full_share (Array R m).mir (v ∷ []) b 0)) (𝓛.laws.at_raw full_share arr b 0 v) $
        owned ! (Array R m) (Is (Array R m)) (Array-Makes 𝓛 R mk m) xs (v ∷ []) is $ move ! (1 ∷ 0 ∷ []) $ fjoin ! $
        fpack ! (List Val) (λ vs. fsep (cell_at full_share (Array R m).mir vs b 0) ((Array R m).own_val xs vs)) (v ∷ []) $
        use1 𝓛 (‵ ((arr_parts (shares R) m).part full_share xs b 0)) (Array-apart 𝓛 R full_share one m xs b 0) $ fsplit ! $ let_go ! $
        use1 𝓛 (‵ (cells (mem R) xs b 0)) (whole_in 𝓛 R xs b 0) $ rewrite ! 0 (λ (l : List R.Denot). ‵ (cells (mem R) l b 0)) (sym (take-append-drop n xs)) refl $
        use1 𝓛 (‵ (cells (mem R) (take n xs) b 0) ⊛ ‵ (cells (mem R) (drop n xs) b (place (mem R).size 0 (length (take n xs))))) (cut 𝓛 R b (take n xs) (drop n xs) 0) $ split ! $
        use1 𝓛 (later (some (λ (δ : GName). ‵ ((MutSlice ℓ κ' R).own_val (front δ) (slice_val (b, 0) (length (take n xs)) ∷ [])) ⊛ ‵ (flent κ' (Held R (length (take n xs)) b 0 δ))))) (lends_slice 𝓛 R ℓ κ' (take n xs) b 0 room) $ await ! tt $ pick ! (λ δ. split ! $
        at_once ! $ show ! (λ (δ' : GName). sep 𝓤 (sem 𝓛 ((MutSlice ℓ κ' R).own_val (front δ') (slice_val (b, 0) (length (take n xs)) ∷ []))) (sem 𝓛 (LentFront δ'))) δ $ frame ! $ fjoin ! $ done !)

    pub front_back : (vals : R.Denot → List Val) → Tells R (Is R) vals → (δ : GName) (zs : List R.Denot) → length zs ≡ length (take n xs) → length (zs ++ drop n xs) ≡ m
        → ent 𝓤 (sep 𝓤 (sem 𝓛 (fdead κ')) (sep 𝓤 (sem 𝓛 (LentFront δ)) (sem 𝓛 (finally R δ zs))))
        (H.⇛ (sep 𝓤 (sem 𝓛 (fat full_share arr b 0 (only (array_vals vals (zs ++ drop n xs))))) (sem 𝓛 ((Array R m).own_val (zs ++ drop n xs) (array_vals vals (zs ++ drop n xs))))))
    unfolding part_of
    front_back vals tl δ zs e long =
        qed 𝓛 (‵ (fdead κ') ∷ ‵ (LentFront δ) ∷ ‵ (finally R δ zs) ∷ []) ∵ updating ! $ move ! (1 ∷ []) $ fsplit ! $ move ! (2 ∷ 0 ∷ 3 ∷ []) $
        use3 𝓛 (later (‵ ((Arr (mem R) (length (take n xs))).own_at zs b 0))) (slice_back 𝓛 R κ' δ zs (length (take n xs)) b 0) $ await ! tt $ fsplit ! $ let_go ! $
        rewrite ! 1 (λ (k : ℕ). ‵ (cells (mem R) (drop n xs) b (place (mem R).size 0 k))) (sym e) refl $
        use2 𝓛 (‵ (cells (mem R) (zs ++ drop n xs) b 0)) (glue 𝓛 R b zs (drop n xs) 0) $
        use1 𝓛 (‵ (row R full_share (zs ++ drop n xs) b 0)) (whole_out 𝓛 R (zs ++ drop n xs) b 0) $
        feq_i ! ℕ (length (zs ++ drop n xs)) m long $ fjoin ! $
        use1 𝓛 (‵ (part_at (Array R m) full_share (zs ++ drop n xs) b 0)) (Array-whole 𝓛 R full_share m (zs ++ drop n xs) b 0) $
        fpick ! (λ vs. fsplit ! $ move ! (1 ∷ []) $ peeks ! (Array R m) (Is (Array R m)) (shows 𝓛 (Array R m)) (zs ++ drop n xs) vs (λ p.
        rewrite ! 0 (λ (us : List Val). ‵ ((Array R m).own_val (zs ++ drop n xs) us)) (Array-Tells R vals tl m (zs ++ drop n xs) vs p) refl $
        rewrite ! 1 (λ (us : List Val). ‵ (cell_at full_share (Array R m).mir us b 0)) (Array-Tells R vals tl m (zs ++ drop n xs) vs p) refl $ move ! (1 ∷ []) $
        use1 𝓛 (‵ (fat full_share arr b 0 (only (array_vals vals (zs ++ drop n xs))))) (𝓛.laws.raw_at full_share arr b 0 (only (array_vals vals (zs ++ drop n xs)))) $ at_once ! $ done !))
