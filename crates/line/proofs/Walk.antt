-- The walk: "next" and "ask".
use Prim.Native.Nat.{ℕ, zero, suc, ◌+◌, ◌≤◌, ◌<◌}
use mathlib.Core.Bool.{Bool, true, false, cond, true≢false, false≢true}
use mathlib.Core.List.{List}
use mathlib.Core.Logic.{inl, inr}
use mathlib.Core.Path.{◌≡◌, refl, sym, ap, subst, ◌∙◌}
use native.Mathlib.Omega.{arith}
use lib.Dec.{eqb, ltb}
use borrow.Author.Tests.{ltb-true, ltb-false, eqb-true, eqb-false, eq-eqb}
use Rattle.wire.specs.declared.address.Address.{Address}
use Rattle.wire.proofs.Choice.{both, same}
use Rattle.command.specs.declared.Place.{Place}
use Rattle.command.specs.declared.Command.{Command}
use Rattle.command.specs.declared.Command.TheVariants.{SetAddress, Nop}
use Rattle.command.specs.Ranges.{fits_of}
use Rattle.status.specs.declared.Answer.{Answer}
use Rattle.status.specs.declared.Answer.TheVariants.{Clear, Marked, Silent}
use Rattle.node.specs.declared.state.Settings.{Settings}
use Rattle.node.specs.declared.state.Node.{Node}
use Rattle.node.specs.Setting.{place}
use Rattle.node.specs.Effect.{address_up, settings_after}
use Rattle.survey.specs.One.{is_meant, is_answering}
use Rattle.survey.specs.Chain.{hears_at}
use Rattle.entry.specs.declared.Entry.{Entry}
use Rattle.entry.specs.declared.Reach.TheVariants.{Misses, Hits}
use Rattle.node.proofs.Laws.{nop_writes, placed_again}
use Rattle.entry.specs.Entry.{knows, doubt_of, note_of}
use Rattle.entry.proofs.Entries.{quiet_noted}
use Rattle.ledger.specs.Ledger.{reach_of}
use Rattle.session.specs.declared.Session.{Session}
use Rattle.session.specs.Session.{node_at, given_place}
use Rattle.line.specs.History.{gives, asks}
use Rattle.line.proofs.Closing.{entry_at, walk_on, settles, Concluded}
use Rattle.line.proofs.Sound.{Sound, told, fits_test, hits_test, noted_sound}
use Rattle.line.proofs.Invariant.{at, PlacedAt, Unplaced, UnplacedAt, Edge, EdgeAt, Alone, Invariant, acts, deaf, Answered, Exchanged}
use Rattle.line.proofs.Step.{held_step, shrinks, stepped}

-- what "next" sends
abbrev given : Session → Command
given h = SetAddress (given_place (h.walk + 1))

-- nothing was learnt and nothing changed
module _ (h t : Session) (ns ms : List Node) (inv : Invariant h ns) (v : ℕ) (called to : Address) (c : Command) (a : Answer) (x : Exchanged v called c ns ms a)
    (k : Concluded h a to c h.walk t)
    (learnt : (i : ℕ) → note_of a (reach_of to (suc i) (entry_at h i)) c (entry_at h i) ≡ entry_at h i)
    (settings : (i : ℕ) → i < h.n → (at ms i).settings ≡ (at ns i).settings)
    (addressed : (i : ℕ) → i < h.n → (at ms i).addressed ≡ (at ns i).addressed) where
  still_step : fits_of c ≡ true → Invariant t ms
  still_step fits =
      let w = inv.walked in
      stepped h ns ms inv v called c a x t to c h.walk k fits w
      (λ i l. rw (learnt i, settings i l) (inv.held i l))
      (λ i l. rw (settings i (omega arith), addressed i (omega arith)) (inv.front i l))
      (λ i l m. rw (settings i m, addressed i m) (inv.back i l m))
      (λ l. rw (learnt h.walk, settings h.walk l, addressed h.walk l) (inv.edge l))
      (λ g i j l m p q. inv.alone g i j l m (rw (settings i l) at p) (rw (settings j m) at q))

-- the walk is at a node that it has not come to
module _ (h : Session) (ns : List Node) (inv : Invariant h ns) (l : h.walk < h.n) (u : UnplacedAt ns h.walk) where
  unplaced : (i : ℕ) → h.walk ≤ i → i < h.n → (b : Bool) → eqb h.walk i ≡ b → UnplacedAt ns i
  unplaced i m p true e = rw (eqb-true h.walk i e) at u
  unplaced i m p false e = let d = eqb-false h.walk i e in inv.back i (omega arith) p

  -- it is the last that hears
  last : (v i : ℕ) → h.walk < i → i < h.n → hears_at v ns i ≡ false
  last v zero m p = absurd (omega arith)
  last v (suc j) m p =
      deaf v ns j (unplaced j (omega arith) (omega arith) (eqb h.walk j) refl).0 (unplaced (suc j) (omega arith) p (eqb h.walk (suc j)) refl).0

  -- so nobody else acts on "next": those before it have their addresses
  only : (v i : ℕ) → i < h.n → acts v (node_at address_up) ns i ≡ true → h.walk ≡ i
  only v i p e = go (ltb i h.walk) (eqb h.walk i) refl refl
    where
      hears_and_meant : (hears_at v ns i ≡ true) × (is_meant (node_at address_up) (at ns i).settings.place ≡ true)
      hears_and_meant = both (hears_at v ns i) (is_meant (node_at address_up) (at ns i).settings.place) e

      go : (b c : Bool) → ltb i h.walk ≡ b → eqb h.walk i ≡ c → h.walk ≡ i
      go true c f k = absurd (omega (arith, (inv.front i (ltb-true i h.walk f)).1, eqb-true 0 (at ns i).settings.place.address.0 hears_and_meant.1))
      go false true f k = eqb-true h.walk i k
      go false false f k =
          let d = eqb-false h.walk i k in
          absurd (false≢true (sym (last v i (omega (arith, ltb-false i h.walk f)) p) ∙ hears_and_meant.0))

  module _ (ms : List Node) (t : Session) (a : Answer) (v : ℕ) (x : Exchanged v (node_at address_up) (given h) ns ms a) where
    at_walk : (i : ℕ) → i < h.n → x.did i ≡ true → h.walk ≡ i
    at_walk i p e = only v i p (x.acting i e)

    -- every other node is as it was
    undone : (i : ℕ) → i < h.n → (h.walk ≡ i → ⊥) → x.did i ≡ false
    undone i p z = go (x.did i) refl
      where
        go : (b : Bool) → x.did i ≡ b → b ≡ false
        go true e = absurd (z (at_walk i p e))
        go false e = refl

    settings_other : (i : ℕ) → i < h.n → (h.walk ≡ i → ⊥) → (at ms i).settings ≡ (at ns i).settings
    settings_other i p z = rw (x.settings i (omega (arith, inv.long)), undone i p z) refl

    addressed_other : (i : ℕ) → i < h.n → (h.walk ≡ i → ⊥) → (at ms i).addressed ≡ (at ns i).addressed
    addressed_other i p z = rw (x.addressed i (omega (arith, inv.long)), undone i p z) refl

    -- the node itself, by whether it acted
    settings_walk : (b : Bool) → x.did h.walk ≡ b → (at ms h.walk).settings ≡ cond b (settings_after (given h) (at ns h.walk).settings) (at ns h.walk).settings
    settings_walk b e = rw (x.settings h.walk (omega (arith, inv.long)), e) refl

    addressed_walk : (b : Bool) → x.did h.walk ≡ b → (at ms h.walk).addressed ≡ cond b true (at ns h.walk).addressed
    addressed_walk b e = rw (x.addressed h.walk (omega (arith, inv.long)), e) refl

    -- a clear answer is its own
    did_walk : a ≡ Clear → x.did h.walk ≡ true
    did_walk e = let o = x.clear e in ap x.did (at_walk o.index (omega (arith, o.inside, inv.long)) o.acted) ∙ o.acted

    -- nobody comes to lead
    alone_next : Alone h.n ms
    alone_next = shrinks h ns ms inv v (node_at address_up) (given h) a x (λ g i e. absurd (false≢true e))

    held_next : (i : ℕ) → i < h.n → Sound (note_of a (reach_of (node_at (h.walk + 1)) (suc i) (entry_at h i)) (given h) (entry_at h i)) (at ms i).settings
    held_next i p =
        held_step h ns ms inv v (node_at address_up) (given h) a x (node_at (h.walk + 1)) i p
        (fits_test (eqb (h.walk + 1) (suc i)) (x.did i) (λ e. eq-eqb (h.walk + 1) (suc i) (omega (arith, at_walk i p e))))
        (λ e r. let j : i ≡ h.walk = omega (arith, eqb-true (h.walk + 1) (suc i) (hits_test (eqb (h.walk + 1) (suc i)) r)) in ap x.did j ∙ did_walk e)

    -- confirmed: it has its address
    front_next : a ≡ Clear → (i : ℕ) → i < h.walk + 1 → (b : Bool) → eqb h.walk i ≡ b → PlacedAt ms i
    front_next e i p true f =
        subst (λ (j : ℕ). PlacedAt ms j) (eqb-true h.walk i f)
        (rw (settings_walk true (did_walk e), addressed_walk true (did_walk e)) (refl, omega arith))
    front_next e i p false f =
        let d = eqb-false h.walk i f in
        rw (settings_other i (omega arith) d, addressed_other i (omega arith) d) (inv.front i (omega arith))

    next_clear : a ≡ Clear → fits_of (given h) ≡ true → Concluded h a (node_at (h.walk + 1)) (given h) (h.walk + 1) t → Invariant t ms
    next_clear e fits k =
        stepped h ns ms inv v (node_at address_up) (given h) a x t (node_at (h.walk + 1)) (given h) (h.walk + 1) k fits (omega arith) held_next
        (λ i p. front_next e i p (eqb h.walk i) refl)
        (λ i p q. rw (settings_other i q (λ z. omega arith), addressed_other i q (λ z. omega arith)) (inv.back i (omega arith) q))
        (λ p. inl (rw (settings_other (h.walk + 1) p (λ z. omega arith), addressed_other (h.walk + 1) p (λ z. omega arith)) (inv.back (h.walk + 1) (omega arith) p)))
        alone_next

    next_marked : a ≡ Marked → fits_of (given h) ≡ true → Concluded h a (node_at (h.walk + 1)) (given h) h.walk t → Invariant t ms
    next_marked e fits k =
        still_step h t ns ms inv v (node_at address_up) (node_at (h.walk + 1)) (given h) a x k (λ i. rw e refl)
        (λ i p. rw (x.settings i (omega (arith, inv.long)), x.marked e i) refl) (λ i p. rw (x.addressed i (omega (arith, inv.long)), x.marked e i) refl) fits

    -- unconfirmed: it may have it, and the host is in doubt
    edge_if : (b : Bool) → x.did h.walk ≡ b → EdgeAt (doubt_of (given h) (entry_at h h.walk)) ms h.walk
    edge_if true e = inr (refl, ap (λ (z : Settings). z.place) (settings_walk true e), addressed_walk true e)
    edge_if false e = inl (rw (settings_walk false e, addressed_walk false e) u)

    next_silent : a ≡ Silent → fits_of (given h) ≡ true → Concluded h a (node_at (h.walk + 1)) (given h) h.walk t → Invariant t ms
    next_silent e fits k =
        stepped h ns ms inv v (node_at address_up) (given h) a x t (node_at (h.walk + 1)) (given h) h.walk k fits inv.walked held_next
        (λ i p. rw (settings_other i (omega arith) (λ z. omega arith), addressed_other i (omega arith) (λ z. omega arith)) (inv.front i p))
        (λ i p q. rw (settings_other i q (λ z. omega arith), addressed_other i q (λ z. omega arith)) (inv.back i p q))
        (λ p. rw (e, eq-eqb (h.walk + 1) (suc h.walk) (omega arith)) (edge_if (x.did h.walk) refl))
        alone_next

-- "next" is due only where the place is known, so the walk has not come to the node
not_come : (e : Entry) (x : Settings) (b : Bool) (n : ℕ) → Edge e x b n → knows e place ≡ true → Unplaced x b
not_come e x b n (inl u) k = u
not_come e x b n (inr p) k = absurd (false≢true (sym p.0 ∙ k))

pub next_step : (h t : Session) (ns ms : List Node) (inv : Invariant h ns) → (l : h.walk < h.n) → knows (entry_at h h.walk) place ≡ true
    → (a : Answer) (v : ℕ) → Exchanged v (node_at address_up) (given h) ns ms a → fits_of (given h) ≡ true
    → Concluded h a (node_at (h.walk + 1)) (given h) (walk_on (gives (h.walk + 1)) a h.walk) t → Invariant t ms
next_step h t ns ms inv l known a v x fits k = go a x k
  where
    u : UnplacedAt ns h.walk
    u = not_come (entry_at h h.walk) (at ns h.walk).settings (at ns h.walk).addressed (h.walk + 1) (inv.edge l) known

    go : (a : Answer) → Exchanged v (node_at address_up) (given h) ns ms a
        → Concluded h a (node_at (h.walk + 1)) (given h) (walk_on (gives (h.walk + 1)) a h.walk) t → Invariant t ms
    go Clear x k = next_clear h ns inv l u ms t Clear v x refl fits k
    go Marked x k = next_marked h ns inv l u ms t Marked v x refl fits k
    go Silent x k = next_silent h ns inv l u ms t Silent v x refl fits k

-- ---- "ask"

-- before the node that the walk is at has its new address nobody has it, and so nobody answers
pub nobody_answers : (h : Session) (ns : List Node) (inv : Invariant h ns) → h.walk < h.n → UnplacedAt ns h.walk
    → {v : ℕ} {did : ℕ → Bool} → Answered v (node_at (h.walk + 1)) ns did → ⊥
nobody_answers h ns inv l u {v} o = go (ltb o.index h.walk) refl
  where
    inside : o.index < h.n
    inside = omega (arith, o.inside, inv.long)

    at_it : h.walk + 1 ≡ (at ns o.index).settings.place.address.0
    at_it = eqb-true (h.walk + 1) _ (both (hears_at v ns o.index) (is_answering (node_at (h.walk + 1)) (at ns o.index).settings.place) o.replies).1

    go : (b : Bool) → ltb o.index h.walk ≡ b → ⊥
    go true f = let q = ltb-true o.index h.walk f in omega (arith, at_it, (inv.front o.index q).1)
    go false f = let q = ltb-false o.index h.walk f in omega (arith, at_it, (unplaced h ns inv l u o.index q inside (eqb h.walk o.index) refl).1)

module _ (h t : Session) (ns ms : List Node) (inv : Invariant h ns) (l : h.walk < h.n) (a : Answer) (v : ℕ) (x : Exchanged v (node_at (h.walk + 1)) Nop ns ms a) where
  settings_ask : (i : ℕ) → i < h.n → (at ms i).settings ≡ (at ns i).settings
  settings_ask i p = x.settings i (omega (arith, inv.long)) ∙ same (x.did i) (at ns i).settings

  addressed_ask : (i : ℕ) → i < h.n → (at ms i).addressed ≡ (at ns i).addressed
  addressed_ask i p = x.addressed i (omega (arith, inv.long)) ∙ same (x.did i) (at ns i).addressed

  found : a ≡ Clear → EdgeAt (entry_at h h.walk) ns h.walk
      → ((at ns h.walk).settings.place ≡ given_place (h.walk + 1)) × ((at ns h.walk).addressed ≡ true)
  found e (inl u) = absurd (nobody_answers h ns inv l u (x.clear e))
  found e (inr p) = (p.1, p.2)

  module _ (f : ((at ns h.walk).settings.place ≡ given_place (h.walk + 1)) × ((at ns h.walk).addressed ≡ true)) where
    settings_found : (i : ℕ) → i < h.n → (b : Bool) → eqb (h.walk + 1) (suc i) ≡ b
        → (at ms i).settings ≡ cond b (settings_after (given h) (at ns i).settings) (at ns i).settings
    settings_found i p true e =
        let q : h.walk ≡ i = omega (arith, eqb-true (h.walk + 1) (suc i) e) in
        settings_ask i p ∙ sym (placed_again (at ns i).settings (given_place (h.walk + 1)) (subst (λ (j : ℕ). (at ns j).settings.place ≡ given_place (h.walk + 1)) q f.0))
    settings_found i p false e = settings_ask i p

    held_found : (i : ℕ) → i < h.n → Sound (note_of Clear (reach_of (node_at (h.walk + 1)) (suc i) (entry_at h i)) (given h) (entry_at h i)) (at ms i).settings
    held_found i p =
        let b = eqb (h.walk + 1) (suc i) in
        rw (settings_found i p b refl)
        (noted_sound Clear (cond b Hits Misses) (given h) (entry_at h i) (at ns i).settings b (told Clear (cond b Hits Misses) b (λ e. absurd (true≢false (cc e))) (λ e. hits_test b))
        (fits_test b b (λ e. e)) (inv.held i p))

    front_found : (i : ℕ) → i < h.walk + 1 → (b : Bool) → eqb h.walk i ≡ b → PlacedAt ns i
    front_found i p true e =
        let q : h.walk ≡ i = eqb-true h.walk i e in
        subst (λ (j : ℕ). PlacedAt ns j) q (f.1, ap (λ (z : Place). z.address.0) f.0 ∙ omega arith)
    front_found i p false e = let d = eqb-false h.walk i e in inv.front i (omega arith)

    alone_ask : Alone h.n ms
    alone_ask g i j p q e d = inv.alone g i j p q (rw (settings_ask i p) at e) (rw (settings_ask j q) at d)

    ask_clear : a ≡ Clear → Concluded h a (node_at (h.walk + 1)) (given h) (h.walk + 1) t → Invariant t ms
    ask_clear e k =
        stepped h ns ms inv v (node_at (h.walk + 1)) Nop a x t (node_at (h.walk + 1)) (given h) (h.walk + 1) k refl (omega arith)
        (rw e held_found)
        (λ i p. rw (settings_ask i (omega arith), addressed_ask i (omega arith)) (front_found i p (eqb h.walk i) refl))
        (λ i p q. rw (settings_ask i q, addressed_ask i q) (inv.back i (omega arith) q))
        (λ p. inl (rw (settings_ask (h.walk + 1) p, addressed_ask (h.walk + 1) p) (inv.back (h.walk + 1) (omega arith) p)))
        alone_ask

  ask_still : ((i : ℕ) → note_of a (reach_of (node_at (h.walk + 1)) (suc i) (entry_at h i)) Nop (entry_at h i) ≡ entry_at h i)
      → Concluded h a (node_at (h.walk + 1)) Nop h.walk t → Invariant t ms
  ask_still learnt k = still_step h t ns ms inv v (node_at (h.walk + 1)) (node_at (h.walk + 1)) Nop a x k learnt settings_ask addressed_ask refl

pub ask_step : (h t : Session) (ns ms : List Node) (inv : Invariant h ns) → h.walk < h.n → (a : Answer) (v : ℕ) → Exchanged v (node_at (h.walk + 1)) Nop ns ms a
    → Concluded h a (node_at (h.walk + 1)) (settles (asks (h.walk + 1)) a Nop) (walk_on (asks (h.walk + 1)) a h.walk) t → Invariant t ms
ask_step h t ns ms inv l Clear v x k = ask_clear h t ns ms inv l Clear v x (found h t ns ms inv l Clear v x refl (inv.edge l)) refl k
ask_step h t ns ms inv l Marked v x k = ask_still h t ns ms inv l Marked v x (λ i. refl) k
ask_step h t ns ms inv l Silent v x k =
    ask_still h t ns ms inv l Silent v x (λ i. quiet_noted Nop nop_writes Silent (reach_of (node_at (h.walk + 1)) (suc i) (entry_at h i)) (entry_at h i)) k
