-- A command once the session is ready: to a node or a group, and "regroup".
use Prim.Native.Nat.{ℕ, suc, ◌<◌}
use mathlib.Core.Bool.{Bool, true, false, cond, ◌&&◌, true≢false, false≢true}
use mathlib.Core.List.{List}
use mathlib.Core.Logic.{◌⊎◌, inl, inr}
use mathlib.Core.Path.{◌≡◌, refl, sym, ap, ◌∙◌}
use native.Mathlib.Omega.{arith}
use lib.Dec.{eqb}
use borrow.Author.Tests.{eqb-true, eqb-false, eq-eqb}
use Rattle.wire.specs.declared.address.Individual.{Individual}
use Rattle.wire.specs.declared.address.Group.{Group}
use Rattle.wire.specs.declared.address.Address.{Address}
use Rattle.wire.specs.declared.address.Address.TheVariants as address
use Rattle.wire.proofs.Choice.{chose_first, both}
use Rattle.command.specs.declared.Place.{Place}
use Rattle.command.specs.declared.Command.{Command}
use Rattle.command.specs.declared.Command.TheVariants.{SetAddress}
use Rattle.command.specs.Ranges.{fits_of}
use Rattle.command.specs.Role.{role_of}
use Rattle.status.specs.declared.Answer.{Answer}
use Rattle.node.specs.declared.state.Node.{Node}
use Rattle.node.specs.Setting.{place}
use Rattle.node.specs.Effect.{effect, writes, settings_after}
use Rattle.node.specs.Node.{addressed_after}
use Rattle.node.proofs.Laws.{addressed_after_lem, unwritten_stays}
use Rattle.survey.specs.One.{is_meant, is_answering}
use Rattle.survey.specs.Chain.{hears_at}
use Rattle.entry.specs.declared.Reach.TheVariants.{Misses, Hits, May}
use Rattle.entry.specs.Entry.{knows, shows}
use Rattle.ledger.specs.Ledger.{blank_entry, reach_of, is_led}
use Rattle.ledger.proofs.Ledgers.{free_says}
use Rattle.session.specs.declared.Session.{Session}
use Rattle.line.proofs.Closing.{entry_at, Concluded}
use Rattle.line.proofs.Sound.{Fits, fits_test, fits_member, hits_test}
use Rattle.line.proofs.Invariant.{at, Placed, PlacedAt, leads, Alone, Invariant, acts, Answered, Exchanged}
use Rattle.line.proofs.Step.{held_step, shrinks, stepped}

-- the host knows whom a command misses, unless the place is in doubt
module _ (h : Session) (ns : List Node) (inv : Invariant h ns) (ended : h.walk ≡ h.n) where
  -- the node's number is its address
  numbered : (i : ℕ) → i < h.n → (at ns i).settings.place.address.0 ≡ suc i
  numbered i l = (inv.front i (omega arith)).1

  -- whoever acts is the one node with that number, or in that group
  acts_node : (v : ℕ) (j : Individual) (i : ℕ) → i < h.n → acts v (address.Individual j) ns i ≡ true → j.0 ≡ suc i
  acts_node v j i l e = eqb-true j.0 _ (both (hears_at v ns i) (is_meant (address.Individual j) (at ns i).settings.place) e).1 ∙ numbered i l

  acts_group : (v : ℕ) (g : Group) (i : ℕ) → acts v (address.Group g) ns i ≡ true → (at ns i).settings.place.group.0 ≡ g.0
  acts_group v g i e = sym (eqb-true g.0 _ (both (hears_at v ns i) (is_meant (address.Group g) (at ns i).settings.place) e).1)

  fits_group : (v : ℕ) (g : Group) (i : ℕ) → i < h.n → (b : Bool) → (b ≡ true → acts v (address.Group g) ns i ≡ true) → (k : Bool) → knows (entry_at h i) place ≡ k
      → Fits (cond k (cond (eqb (shows (entry_at h i) place).group.0 g.0) (cond (shows (entry_at h i) place).leader Hits May) Misses) May) b
  fits_group v g i l b f true k =
      let p : Place = (at ns i).settings.place in
      rw (inv.held i l place k) (fits_member (eqb p.group.0 g.0) p.leader b (λ e. eq-eqb p.group.0 g.0 (acts_group v g i (f e))))
  fits_group v g i l b f false k = tt

  -- b: any fact that makes the node one that acts
  pub fits_ready : (v : ℕ) (to : Address) (i : ℕ) → i < h.n → (b : Bool) → (b ≡ true → acts v to ns i ≡ true) → Fits (reach_of to (suc i) (entry_at h i)) b
  fits_ready v (address.Individual j) i l b f = fits_test (eqb j.0 (suc i)) b (λ e. eq-eqb j.0 (suc i) (acts_node v j i l (f e)))
  fits_ready v (address.Group g) i l b f = fits_group v g i l b f (knows (entry_at h i) place) refl

  -- whose the host takes a reply to be would answer, if it heard: a node by its number, of a group its known leader
  hits_answers : (to : Address) (i : ℕ) → i < h.n → reach_of to (suc i) (entry_at h i) ≡ Hits → is_answering to (at ns i).settings.place ≡ true
  hits_answers (address.Individual j) i l r = eq-eqb j.0 _ (eqb-true j.0 (suc i) (hits_test (eqb j.0 (suc i)) r) ∙ sym (numbered i l))
  hits_answers (address.Group g) i l r =
      let k = chose_first (knows (entry_at h i) place) r (λ e. true≢false (cc e)) in
      let m = chose_first (eqb (shows (entry_at h i) place).group.0 g.0) k.1 (λ e. true≢false (cc e)) in
      let o = chose_first (shows (entry_at h i) place).leader m.1 (λ e. true≢false (cc e)) in
      let p = inv.held i l place k.0 in
      let u : (at ns i).settings.place.leader ≡ true = ap (λ (q : Place). q.leader) (sym p) ∙ o.0 in
      let w : g.0 ≡ (at ns i).settings.place.group.0 = sym (eqb-true _ g.0 m.0) ∙ ap (λ (q : Place). q.group.0) p in
      rw (u, eq-eqb g.0 _ w) refl

  -- no two would
  one_answers : (to : Address) (i j : ℕ) → i < h.n → j < h.n → is_answering to (at ns i).settings.place ≡ true → is_answering to (at ns j).settings.place ≡ true → i ≡ j
  one_answers (address.Individual a) i j l m p q =
      omega (arith, eqb-true a.0 (at ns i).settings.place.address.0 p, numbered i l, eqb-true a.0 (at ns j).settings.place.address.0 q, numbered j m)
  one_answers (address.Group g) i j l m p q = inv.alone g.0 i j l m p q

  -- a clear answer: whom the host counts as reached is the node that answered, since no two would; so it acted
  reached : {v : ℕ} {c : Command} {ms : List Node} {a : Answer} (to : Address) (x : Exchanged v to c ns ms a) → Answered v to ns x.did
      → (i : ℕ) → i < h.n → reach_of to (suc i) (entry_at h i) ≡ Hits → x.did i ≡ true
  reached {v} to x o i l r =
      let y = (both (hears_at v ns o.index) (is_answering to (at ns o.index).settings.place) o.replies).1 in
      let e = one_answers to i o.index l (omega (arith, o.inside, inv.long)) (hits_answers to i l r) y in
      ap x.did e ∙ o.acted

  module _ (ms : List Node) (t : Session) (v : ℕ) (to : Address) (c : Command) (a : Answer) (x : Exchanged v to c ns ms a) (k : Concluded h a to c h.walk t) where
    placed_if : (i : ℕ) (b : Bool) → PlacedAt ns i
        → (b ≡ true → Placed (suc i) (settings_after c (at ns i).settings) (addressed_after (role_of c) (at ns i).addressed))
        → Placed (suc i) (cond b (settings_after c (at ns i).settings) (at ns i).settings) (cond b (addressed_after (role_of c) (at ns i).addressed) (at ns i).addressed)
    placed_if i true p q = q refl
    placed_if i false p q = p

    -- if every node that acts keeps its number
    ready_step : fits_of c ≡ true
        → ((i : ℕ) → i < h.n → acts v to ns i ≡ true → Placed (suc i) (settings_after c (at ns i).settings) (addressed_after (role_of c) (at ns i).addressed))
        → Alone h.n ms
        → Invariant t ms
    ready_step fits numbers alone =
        stepped h ns ms inv v to c a x t to c h.walk k fits inv.walked
        (λ i l. held_step h ns ms inv v to c a x to i l (fits_ready v to i l (x.did i) (x.acting i)) (λ e. reached to x (x.clear e) i l))
        (λ i l. rw (x.settings i (omega (arith, inv.long)), x.addressed i (omega (arith, inv.long)))
        (placed_if i (x.did i) (inv.front i l) (λ e. numbers i (omega arith) (x.acting i e))))
        (λ i l m. absurd (omega arith)) (λ l. absurd (omega arith)) alone

    -- a command that writes no place
    pub order_step : fits_of c ≡ true → writes (effect c place) ≡ false → Invariant t ms
    order_step fits w =
        ready_step fits
        (λ i l e. rw (unwritten_stays c (at ns i).settings place w, addressed_after_lem c (at ns i).addressed w) (inv.front i (omega arith)))
        (shrinks h ns ms inv v to c a x (λ g i e. rw (unwritten_stays c (at ns i).settings place w) at e))

-- "regroup": a node that leads group g afterwards led it before, or is the one that was sent to, and g the group that it was given
module _ (h : Session) (ns ms : List Node) (inv : Invariant h ns) (ended : h.walk ≡ h.n) (t : Session) (v : ℕ) (n : Individual) (g : Group) (leader : Bool) (a : Answer)
    (free : leader ≡ true → is_led n.0 g h.n h.entries ≡ false)
    (x : Exchanged v (address.Individual n) (SetAddress (record { address = n; group = g; leader = leader })) ns ms a) where
  Led : ℕ → ℕ → Type 0
  Led r i = (leads r (at ns i).settings ≡ true) ⊎ ((leader ≡ true) × (suc i ≡ n.0) × (r ≡ g.0))

  led_if : (r i : ℕ) (did : Bool) → (did ≡ true → n.0 ≡ suc i)
      → leads r (cond did (settings_after (SetAddress (record { address = n; group = g; leader = leader })) (at ns i).settings) (at ns i).settings) ≡ true → Led r i
  unfolding Led
  led_if r i true s e = let p = both leader (eqb r g.0) e in inr (p.0, sym (s refl), eqb-true r g.0 p.1)
  led_if r i false s e = inl e

  led : (r i : ℕ) → i < h.n → leads r (at ms i).settings ≡ true → Led r i
  led r i l e = led_if r i (x.did i) (λ d. acts_node h ns inv ended v n i l (x.acting i d)) (rw (x.settings i (omega (arith, inv.long))) at e)

  -- 11 has kept another leader away
  rival : (r i : ℕ) → i < h.n → leader ≡ true → r ≡ g.0 → (suc i ≡ n.0 → ⊥) → leads r (at ns i).settings ≡ true → ⊥
  rival r i l w e o f =
      let b = free_says n.0 g h.n h.entries blank_entry inv.few (free w) i l (omega (arith, inv.few, inv.full)) o in
      let s : ((at ns i).settings.place.leader && eqb (at ns i).settings.place.group.0 g.0) ≡ false = rw (inv.held i l place b.known) at b.follows in
      let p = both (at ns i).settings.place.leader (eqb r (at ns i).settings.place.group.0) f in
      false≢true (sym s ∙ rw (p.0, eq-eqb _ g.0 (sym (eqb-true r _ p.1) ∙ e)) refl)

  only : (r i j : ℕ) → i < h.n → j < h.n → Led r i → Led r j → (b : Bool) → eqb i j ≡ b → i ≡ j
  unfolding Led
  only r i j l m p q true e = eqb-true i j e
  only r i j l m (inl p) (inl q) false e = inv.alone r i j l m p q
  only r i j l m (inl p) (inr q) false e = absurd (rival r i l q.0 q.2 (λ o. eqb-false i j e (omega (arith, q.1))) p)
  only r i j l m (inr p) (inl q) false e = absurd (rival r j m p.0 p.2 (λ o. eqb-false i j e (omega (arith, p.1))) q)
  only r i j l m (inr p) (inr q) false e = omega (arith, p.1, q.1)

  pub regroup_step : fits_of (SetAddress (record { address = n; group = g; leader = leader })) ≡ true
      → Concluded h a (address.Individual n) (SetAddress (record { address = n; group = g; leader = leader })) h.walk t → Invariant t ms
  regroup_step fits k =
      ready_step h ns inv ended ms t v (address.Individual n) (SetAddress (record { address = n; group = g; leader = leader })) a x k fits
      (λ i l e. (refl, acts_node h ns inv ended v n i l e))
      (λ r i j l m p q. only r i j l m (led r i l p) (led r j m q) (eqb i j) refl)
