-- Some nodes get a packet, the others miss it and stay as they are: what each node is afterwards, and whose the reply is.
use Prim.Native.Nat.{ℕ, zero, suc, ◌<◌}
use mathlib.Core.Bool.{Bool, true, false, cond, true≢false}
use mathlib.Core.List.{List, [], ◌∷◌}
use mathlib.Core.Path.{◌≡◌, refl, sym, ap, ◌∙◌}
use native.Mathlib.Omega.{arith}
use lib.ListN.{length}
use Rattle.wire.specs.declared.address.Address.{Address}
use Rattle.wire.proofs.Choice.{same, chose_first, both}
use Rattle.wire.proofs.Impossible.{impossible}
use Rattle.node.specs.declared.state.Node.{Node}
use Rattle.message.specs.declared.Messages.{Messages}
use Rattle.message.specs.Message.{is_answered}
use Rattle.survey.specs.One.{is_answering}
use Rattle.survey.specs.Chain.{repliers_from, replier_in, Said, silence, reply, collided, said, hears_at}
use Rattle.survey.proofs.Repliers.{Rising, lower, Replies, repliers_rise, Speaks, one_speaks, Two, two_speak}
use Rattle.line.specs.Line.{parted, getting, said_among}
use Rattle.line.proofs.Invariant.{at}

-- ---- the nodes

pub length_parted : (gets : ℕ → Bool) (ns ms : List Node) → length (parted gets ns ms) ≡ length ns
length_parted gets [] ms = refl
length_parted gets (n ∷ ns) [] = refl
length_parted gets (n ∷ ns) (m ∷ ms) = ap suc (length_parted (λ i. gets (suc i)) ns ms)

pub parted_at : (gets : ℕ → Bool) (ns ms : List Node) (i : ℕ) → length ms ≡ length ns → i < length ns → at (parted gets ns ms) i ≡ cond (gets i) (at ms i) (at ns i)
parted_at gets [] ms i e l = absurd (omega arith)
parted_at gets (n ∷ ns) [] i e l = absurd (omega arith)
parted_at gets (n ∷ ns) (m ∷ ms) zero e l = refl
parted_at gets (n ∷ ns) (m ∷ ms) (suc i) e l = parted_at (λ j. gets (suc j)) ns ms i (omega arith) (omega arith)

-- where nothing changes it is all the same who gets it
pub parted_same : (gets : ℕ → Bool) (ns : List Node) → parted gets ns ns ≡ ns
parted_same gets [] = refl
parted_same gets (n ∷ ns) = rw (same (gets zero) n, parted_same (λ i. gets (suc i)) ns) refl

pub parted_none : (ns ms : List Node) → parted (λ i. false) ns ms ≡ ns
parted_none [] ms = refl
parted_none (n ∷ ns) [] = refl
parted_none (n ∷ ns) (m ∷ ms) = ap (λ (l : List Node). n ∷ l) (parted_none ns ms)

pub parted_all : (ns ms : List Node) → length ms ≡ length ns → parted (λ i. true) ns ms ≡ ms
parted_all [] [] e = refl
parted_all [] (m ∷ ms) e = absurd (omega arith)
parted_all (n ∷ ns) [] e = absurd (omega arith)
parted_all (n ∷ ns) (m ∷ ms) e = ap (λ (l : List Node). m ∷ l) (parted_all ns ms (omega arith))

-- ---- what is said

getting_all : (is : List ℕ) → getting (λ i. true) is ≡ is
getting_all [] = refl
getting_all (i ∷ is) = ap (λ (js : List ℕ). i ∷ js) (getting_all is)

pub among_all : (v : ℕ) (to : Address) (m : Messages) (ns : List Node) → said_among (λ i. true) v to m ns ≡ said v to m ns
unfolding said replier_in
among_all v to m ns = rw (getting_all (repliers_from v to 0 true ns)) refl

-- a node that replies, and gets the packet
abbrev pub Calling : (ℕ → Bool) → ℕ → Address → List Node → ℕ → Type 0
Calling gets v to ns i = Replies v to ns i × (gets i ≡ true)

getting_rises : (gets : ℕ → Bool) (P : ℕ → Type 0) (low : ℕ) (is : List ℕ) → Rising P low is → Rising (λ i. P i × (gets i ≡ true)) low (getting gets is)
getting_rises gets P low [] u = tt
getting_rises gets P low (i ∷ is) u = go (gets i) refl (getting_rises gets P (suc i) is u.2)
  where
    go : (t : Bool) → gets i ≡ t → Rising (λ j. P j × (gets j ≡ true)) (suc i) (getting gets is)
        → Rising (λ j. P j × (gets j ≡ true)) low (cond t (i ∷ getting gets is) (getting gets is))
    go true e rest = (u.0, (u.1, e), rest)
    go false e rest = lower (λ j. P j × (gets j ≡ true)) low (suc i) (getting gets is) (omega (arith, u.0)) rest

module _ (gets : ℕ → Bool) (v : ℕ) (to : Address) (m : Messages) (ns : List Node) where
  rises : Rising (Calling gets v to ns) 0 (getting gets (repliers_from v to 0 true ns))
  rises = getting_rises gets (Replies v to ns) 0 (repliers_from v to 0 true ns) (repliers_rise v to ns)

  -- the one reply is that of a node that gets the packet, hears and answers
  pub among_says : (r : List ℕ) → said_among gets v to m ns ≡ reply r → Speaks (Calling gets v to ns) m ns r
  among_says r e = one_speaks (Calling gets v to ns) m ns (getting gets (repliers_from v to 0 true ns)) r rises (chose_first (is_answered m.gate) e (λ z. impossible cc)).1

  -- several are those of two such nodes
  pub among_two : said_among gets v to m ns ≡ collided → Two (Calling gets v to ns)
  among_two e = two_speak (Calling gets v to ns) m ns (getting gets (repliers_from v to 0 true ns)) rises (chose_first (is_answered m.gate) e (λ z. impossible cc)).1

  -- where no node would answer, nothing is said
  pub none_among : ((i : ℕ) → i < length ns → is_answering to (at ns i).settings.place ≡ false) → said_among gets v to m ns ≡ silence
  none_among f = go (said_among gets v to m ns) refl
    where
      never : {i : ℕ} → Calling gets v to ns i → ⊥
      never {i} c = true≢false (sym (both (hears_at v ns i) (is_answering to (at ns i).settings.place) c.0.1).1 ∙ f i c.0.0)

      go : (s : Said) → said_among gets v to m ns ≡ s → s ≡ silence
      go silence e = refl
      go (reply r) e = absurd (never (among_says r e).is)
      go collided e = absurd (never (among_two e).one)
