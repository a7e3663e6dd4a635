-- No two nodes reply at once.
use Prim.Native.Nat.{ℕ, zero, suc, ◌≤◌, ◌<◌}
use mathlib.Core.Bool.{Bool, true, false, false≢true}
use mathlib.Core.List.{List}
use mathlib.Core.Logic.{◌⊎◌, inl, inr}
use mathlib.Core.Path.{◌≡◌, refl, sym, ap, subst, ◌∙◌}
use native.Mathlib.Omega.{arith}
use lib.Dec.{eqb, ltb}
use borrow.Author.Tests.{eqb-true, eqb-false, ltb-true, ltb-false}
use Rattle.wire.specs.declared.address.Address.{Address}
use Rattle.wire.specs.declared.address.Address.TheVariants as address
use Rattle.wire.proofs.Choice.{both}
use Rattle.node.specs.declared.state.Node.{Node}
use Rattle.message.specs.declared.Messages.{Messages}
use Rattle.survey.specs.One.{is_answering}
use Rattle.survey.specs.Chain.{collided, hears_at, replies_at}
use Rattle.session.specs.declared.Session.{Session}
use Rattle.session.specs.Session.{node_at}
use Rattle.line.specs.Line.{said_among}
use Rattle.line.proofs.Closing.{entry_at}
use Rattle.line.proofs.Invariant.{at, UnplacedAt, EdgeAt, Invariant, deaf}
use Rattle.line.proofs.Getting.{among_two}

-- a node of its own address, or one at 0x00 that the walk has not come to
abbrev Own : Session → List Node → ℕ → Type 0
Own h ns i = ((at ns i).settings.place.address.0 ≡ suc i) ⊎ (((at ns i).settings.place.address.0 ≡ 0) × ((at ns i).addressed ≡ false) × (h.walk ≤ i))

module _ (h : Session) (ns : List Node) (inv : Invariant h ns) where
  unplaced : (i : ℕ) → h.walk ≤ i → UnplacedAt ns i → Own h ns i
  unplaced i l u = inr (u.1, u.0, l)

  edge_own : (i : ℕ) → h.walk ≡ i → i < h.n → Own h ns i
  edge_own i e l = subst (Own h ns) e (go (inv.edge (omega arith)))
    where
      go : EdgeAt (entry_at h h.walk) ns h.walk → Own h ns h.walk
      go (inl u) = unplaced h.walk (omega arith) u
      go (inr p) = inl (ap (λ q. q.address.0) p.1 ∙ omega arith)

  own : (i : ℕ) → i < h.n → (b c : Bool) → ltb i h.walk ≡ b → eqb h.walk i ≡ c → Own h ns i
  own i l true c e f = inl (inv.front i (ltb-true i h.walk e)).1
  own i l false true e f = edge_own i (eqb-true h.walk i f) l
  own i l false false e f =
      let m = ltb-false i h.walk e in
      let d = eqb-false h.walk i f in
      unplaced i m (inv.back i (omega arith) l)

  -- of two nodes at 0x00 the later doesn't hear
  later : (i j : ℕ) → i < j → j < h.n → h.walk ≤ i → (at ns i).addressed ≡ false → (at ns j).addressed ≡ false → (v : ℕ) → hears_at v ns j ≡ true → ⊥
  later i zero l m w u z v e = omega arith
  later i (suc j) l m w u z v e = false≢true (sym (deaf v ns j (near (eqb i j) refl) z) ∙ e)
    where
      near : (b : Bool) → eqb i j ≡ b → (at ns j).addressed ≡ false
      near true f = rw (← (eqb-true i j f)) u
      near false f = let d = eqb-false i j f in (inv.back j (omega arith) (omega arith)).0

  only_address : (a i j : ℕ) → i < h.n → j < h.n → Own h ns i → Own h ns j → a ≡ (at ns i).settings.place.address.0 → a ≡ (at ns j).settings.place.address.0
      → (v : ℕ) → hears_at v ns i ≡ true → hears_at v ns j ≡ true → (b c : Bool) → ltb i j ≡ b → ltb j i ≡ c → i ≡ j
  only_address a i j l m (inl p) (inl q) e f v x y b c g k = omega arith
  only_address a i j l m (inl p) (inr q) e f v x y b c g k = absurd (omega (arith, q.0))
  only_address a i j l m (inr p) (inl q) e f v x y b c g k = absurd (omega (arith, p.0))
  only_address a i j l m (inr p) (inr q) e f v x y true c g k = absurd (later i j (ltb-true i j g) m p.2 p.1 q.1 v y)
  only_address a i j l m (inr p) (inr q) e f v x y false true g k = absurd (later j i (ltb-true j i k) l q.2 q.1 p.1 v x)
  only_address a i j l m (inr p) (inr q) e f v x y false false g k = omega (arith, ltb-false i j g, ltb-false j i k)

  -- a node that answers to the address k, from 1 on, has that number
  pub numbered_by : (k i : ℕ) → 1 ≤ k → i < h.n → is_answering (node_at k) (at ns i).settings.place ≡ true → suc i ≡ k
  numbered_by k i one l e = go (own i l (ltb i h.walk) (eqb h.walk i) refl refl)
    where
      go : Own h ns i → suc i ≡ k
      go (inl p) = omega (arith, p, eqb-true k (at ns i).settings.place.address.0 e)
      go (inr p) = absurd (omega (arith, p.0, eqb-true k (at ns i).settings.place.address.0 e))

  -- at most one node replies to an address
  pub one_replies : (v : ℕ) (to : Address) (i j : ℕ) → i < h.n → j < h.n → replies_at v to ns i ≡ true → replies_at v to ns j ≡ true → i ≡ j
  one_replies v (address.Individual a) i j l m p q =
      let x = both (hears_at v ns i) (is_answering (address.Individual a) (at ns i).settings.place) p in
      let y = both (hears_at v ns j) (is_answering (address.Individual a) (at ns j).settings.place) q in
      only_address a.0 i j l m (own i l (ltb i h.walk) (eqb h.walk i) refl refl) (own j m (ltb j h.walk) (eqb h.walk j) refl refl)
      (eqb-true a.0 _ x.1) (eqb-true a.0 _ y.1) v x.0 y.0 (ltb i j) (ltb j i) refl refl
  one_replies v (address.Group g) i j l m p q =
      let x = both (hears_at v ns i) (is_answering (address.Group g) (at ns i).settings.place) p in
      let y = both (hears_at v ns j) (is_answering (address.Group g) (at ns j).settings.place) q in
      inv.alone g.0 i j l m x.1 y.1

  pub none_collided : (gets : ℕ → Bool) (v : ℕ) (to : Address) (message : Messages) → said_among gets v to message ns ≡ collided → ⊥
  none_collided gets v to message e =
      let t = among_two gets v to message ns e in
      let n = inv.long in
      let s = one_replies v to t.first t.second (omega (arith, t.one.0.0)) (omega (arith, t.two.0.0)) t.one.0.1 t.two.0.1 in
      omega (arith, t.apart)
