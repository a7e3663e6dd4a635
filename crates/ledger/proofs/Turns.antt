-- The loops over the record: what a turn does, and where they end.
use Prim.Native.Nat.{ℕ, zero, suc, ◌+◌, ◌-◌, ◌<◌, ◌≤◌}
use mathlib.Core.Bool.{Bool, true, false, cond, ◌||◌}
use mathlib.Core.List.{List, [], ◌∷◌, map}
use mathlib.Core.Path.{◌≡◌, refl, sym, ap, ◌∙◌}
use native.Mathlib.Nat.{not-suc-le-zero, le_of_suc-le-suc}
use native.Mathlib.Numerals.{add-one}
use native.Mathlib.Omega.{arith}
use lib.Dec.{ltb}
use lib.ListN.{length, get_or, set, drop}
use lib.Seq.{drop-cons}
use borrow.Author.Tests.{ltb-false}
use Rattle.wire.specs.declared.address.Address.{Address}
use Rattle.wire.specs.declared.kind.Kind.{Kind}
use Rattle.wire.specs.declared.kind.Kind.TheVariants.{Gate}
use Rattle.command.specs.declared.Command.{Command}
use Rattle.command.specs.declared.Command.TheVariants.{HardReset}
use Rattle.status.specs.declared.Answer.{Answer}
use Rattle.entry.specs.declared.Entry.{Entry}
use Rattle.entry.specs.declared.Reach.{Reach}
use Rattle.entry.specs.Entry.{entry_power_up, note_of, doubt_of}
use Rattle.ledger.specs.Ledger.{all_gates, telling, ledger_power_up, ledger_least, reach_of, each_from, settling, settle_of, forget_of, any_from}

capped : (t : Bool) (n : ℕ) → ltb 31 n ≡ t → cond t 31 n ≤ 31
capped true n h = omega arith
capped false n h = ltb-false 31 n h

-- the entry that is next is as it was
next_kept : (f : ℕ → Entry → Entry) (j i : ℕ) (es : List Entry) (d : Entry) → get_or (each_from f j i es) i d ≡ get_or es i d
unfolding each_from
next_kept f j zero es d = refl
next_kept f j (suc i) [] d = refl
next_kept f j (suc i) (e ∷ es) d = next_kept f (suc j) i es d

pub length_each : (f : ℕ → Entry → Entry) (j i : ℕ) (es : List Entry) → length (each_from f j i es) ≡ length es
unfolding each_from
length_each f j zero es = refl
length_each f j (suc i) [] = refl
length_each f j (suc i) (e ∷ es) = ap suc (length_each f (suc j) i es)

step : (f : ℕ → Entry → Entry) (j i : ℕ) (es : List Entry) (d : Entry) → i < length es
    → set (each_from f j i es) i (f (j + i) (get_or es i d)) ≡ each_from f j (suc i) es
unfolding each_from
step f j i [] d l = absurd (not-suc-le-zero l)
step f j zero (e ∷ es) d l = ap (λ (n : ℕ). f n e ∷ es) (omega arith)
step f j (suc i) (e ∷ es) d l =
    ap (λ (n : ℕ). f j e ∷ set (each_from f (suc j) i es) i (f n (get_or es i d))) (omega arith)
    ∙ ap (λ (t : List Entry). f j e ∷ t) (step f (suc j) i es d (le_of_suc-le-suc l))

-- a store of the rule's entry at i, of node i + 1, makes it one more
pub one_more : (f : ℕ → Entry → Entry) (i : ℕ) (es : List Entry) (d : Entry) → i < length es
    → set (each_from f 1 i es) i (f (i + 1) (get_or (each_from f 1 i es) i d)) ≡ each_from f 1 (i + 1) es
one_more f i es d l =
    rw (next_kept f 1 i es d, add-one i)
    (ap (λ (n : ℕ). set (each_from f 1 i es) i (f n (get_or es i d))) (omega arith) ∙ step f 1 i es d l)

-- how many entries n counts: never more than there are
pub least_31 : (n end : ℕ) → end ≡ ledger_least n → end ≤ 31
unfolding ledger_least
least_31 n end e = rw e (capped (ltb 31 n) n refl)

-- where `power_up` starts, a turn of it, and its end
pub gates_31 : length all_gates ≡ 31
unfolding all_gates
gates_31 = refl

pub up_turn : (ks : List Kind) (i : ℕ) (es l : List Entry) (e : Entry) → l ≡ each_from (telling ks) 1 i es → e ≡ entry_power_up (get_or ks i Gate) → i < length es
    → set l i e ≡ each_from (telling ks) 1 (i + 1) es
unfolding telling
up_turn ks i es l e p f h =
    let z : i + 1 - 1 ≡ i = omega arith in
    rw (f, p)
    (ap (λ (m : ℕ). set (each_from (telling ks) 1 i es) i (entry_power_up (get_or ks m Gate))) (sym z) ∙ one_more (telling ks) i es (entry_power_up Gate) h)

pub up_end : (ks : List Kind) (n i : ℕ) (es l : List Entry) → i ≡ ledger_least n → es ≡ all_gates → l ≡ each_from (telling ks) 1 i es → l ≡ ledger_power_up n ks
unfolding ledger_power_up
up_end ks n i es l p q h = h ∙ ap (λ (m : ℕ). each_from (telling ks) 1 m es) p ∙ ap (λ (x : List Entry). each_from (telling ks) 1 (ledger_least n) x) q

-- a turn of `settle`, and its end
pub settle_turn : (a : Answer) (to : Address) (c : Command) (i : ℕ) (es l : List Entry) (r : Reach) (e d : Entry)
    → l ≡ each_from (settling a to c) 1 i es → r ≡ reach_of to (i + 1) (get_or l i d) → e ≡ note_of a r c (get_or l i d) → i < length es
    → set l i e ≡ each_from (settling a to c) 1 (i + 1) es
settle_turn a to c i es l r e d p q f h = rw (f, q, p) (one_more (settling a to c) i es d h)

pub settle_end : (a : Answer) (to : Address) (c : Command) (n i : ℕ) (es l : List Entry) → i ≡ ledger_least n
    → l ≡ each_from (settling a to c) 1 i es → l ≡ settle_of a to c n es
unfolding settle_of
settle_end a to c n i es l p q = q ∙ ap (λ (m : ℕ). each_from (settling a to c) 1 m es) p

-- a rule that is the same for all nodes, over all of them
pub each_map : (f : Entry → Entry) (j : ℕ) (es : List Entry) → each_from (λ k. f) j (length es) es ≡ map f es
unfolding each_from
each_map f j [] = refl
each_map f j (e ∷ es) = ap (λ (t : List Entry). f e ∷ t) (each_map f (suc j) es)

-- a turn of `forget`, and its end: all that a node holds goes into doubt, whichever it is
abbrev pub forgetting : ℕ → Entry → Entry
forgetting k e = doubt_of HardReset e

pub forget_turn : (i : ℕ) (es l : List Entry) (e d : Entry) → l ≡ each_from forgetting 1 i es → e ≡ doubt_of HardReset (get_or l i d) → i < length es
    → set l i e ≡ each_from forgetting 1 (i + 1) es
forget_turn i es l e d p f h = rw (f, p) (one_more forgetting i es d h)

pub forget_end : (i : ℕ) (es l : List Entry) → i ≡ length es → l ≡ each_from forgetting 1 i es → l ≡ forget_of es
unfolding forget_of
forget_end i es l p q = q ∙ ap (λ (m : ℕ). each_from forgetting 1 m es) p ∙ each_map (doubt_of HardReset) 1 es

-- a search: where it starts; one is found; a turn; none is found
pub any_start : (f : ℕ → Entry → Bool) (m end : ℕ) (es : List Entry) → end ≡ m → any_from f (0 + 1) (end - 0) (drop 0 es) ≡ any_from f 1 m es
any_start f m end es e = ap (λ (k : ℕ). any_from f 1 k es) (omega arith)

here : (f : ℕ → Entry → Bool) (n i : ℕ) (es : List Entry) (d : Entry) → i < n → i < length es
    → any_from f (i + 1) (n - i) (drop i es) ≡ (f (i + 1) (get_or es i d) || any_from f (i + 1 + 1) (n - (i + 1)) (drop (i + 1) es))
unfolding any_from
here f n i es d p q =
    let e : n - i ≡ suc (n - (i + 1)) = omega arith in
    rw (e, drop-cons es i d, add-one (i + 1), add-one i)

module _ (f : ℕ → Entry → Bool) (end i : ℕ) (es : List Entry) (w : Bool) (h : any_from f (i + 1) (end - i) (drop i es) ≡ w) where
  pub any_found : (d : Entry) (t : Bool) → t ≡ f (i + 1) (get_or es i d) → t ≡ true → i < end → i < length es → true ≡ w
  any_found d t r y p q = rw (← r, y) at (sym (here f end i es d p q)) ∙ h

  pub any_turn : (d : Entry) (t : Bool) → t ≡ f (i + 1) (get_or es i d) → t ≡ false → i < end → i < length es
      → any_from f (i + 1 + 1) (end - (i + 1)) (drop (i + 1) es) ≡ w
  any_turn d t r y p q = rw (← r, y) at (sym (here f end i es d p q)) ∙ h

  pub any_none : end ≤ i → false ≡ w
  unfolding any_from
  any_none p = let e : end - i ≡ 0 = omega arith in rw e at h

-- a list whose every item is f of another's is that one mapped
pub mapped : (f : Entry → Entry) (xs ys : List Entry) → length ys ≡ length xs → ((i : ℕ) (d : Entry) → i < length ys → get_or ys i d ≡ f (get_or xs i d)) → ys ≡ map f xs
mapped f [] [] e h = refl
mapped f [] (y ∷ ys) e h = absurd (omega arith)
mapped f (x ∷ xs) [] e h = absurd (omega arith)
mapped f (x ∷ xs) (y ∷ ys) e h =
    let t : ys ≡ map f xs = mapped f xs ys (omega arith) (λ i d p. h (suc i) d (omega arith)) in
    let u : y ≡ f x = h 0 x (omega arith) in
    rw (u, t)
