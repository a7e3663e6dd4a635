-- One exchange, for every kind of command: what the invariant asks of it, node by node.
use Prim.Native.Nat.{ℕ, suc, ◌≤◌, ◌<◌}
use mathlib.Core.Bool.{Bool, true, false, cond}
use mathlib.Core.List.{List}
use mathlib.Core.Path.{◌≡◌, sym, ap, ◌∙◌}
use native.Mathlib.Omega.{arith}
use Rattle.wire.specs.declared.address.Address.{Address}
use Rattle.command.specs.declared.Command.{Command}
use Rattle.command.specs.Ranges.{place_fits, fits_of}
use Rattle.status.specs.declared.Answer.{Answer}
use Rattle.status.specs.declared.Answer.TheVariants.{Clear}
use Rattle.node.specs.declared.state.Node.{Node}
use Rattle.node.specs.Effect.{settings_after}
use Rattle.node.proofs.Laws.{fit_after}
use Rattle.entry.specs.declared.Reach.TheVariants.{Hits}
use Rattle.entry.specs.declared.Entry.{Entry}
use Rattle.entry.specs.Entry.{note_of}
use Rattle.entry.proofs.Entries.{kind_noted}
use Rattle.ledger.specs.Ledger.{reach_of}
use Rattle.session.specs.declared.Session.{Session}
use Rattle.line.proofs.Closing.{entry_at, Concluded}
use Rattle.line.proofs.Sound.{Sound, Fits, told, noted_sound}
use Rattle.line.proofs.Invariant.{at, PlacedAt, UnplacedAt, EdgeAt, leads, Alone, Invariant, Exchanged}

module _ (h : Session) (ns ms : List Node) (inv : Invariant h ns) (v : ℕ) (called : Address) (c : Command) (a : Answer) (x : Exchanged v called c ns ms a) where
  -- what is known is held, also afterwards: whom the host counts as missed has not acted, whom it counts as reached has, if the answer is clear
  pub held_step : (to : Address) (i : ℕ) → i < h.n → Fits (reach_of to (suc i) (entry_at h i)) (x.did i)
      → (a ≡ Clear → reach_of to (suc i) (entry_at h i) ≡ Hits → x.did i ≡ true)
      → Sound (note_of a (reach_of to (suc i) (entry_at h i)) c (entry_at h i)) (at ms i).settings
  held_step to i l f g =
      let r = reach_of to (suc i) (entry_at h i) in
      rw (x.settings i (omega (arith, inv.long)))
      (noted_sound a r c (entry_at h i) (at ns i).settings (x.did i) (told a r (x.did i) (λ e. x.marked e i) g) f (inv.held i l))

  -- each node's place is of its range
  fit_if : fits_of c ≡ true → (b : Bool) (i : ℕ) → i < h.n
      → place_fits (cond b (settings_after c (at ns i).settings) (at ns i).settings).place ≡ true
  fit_if f true i l = fit_after c f (at ns i).settings (inv.fit i l)
  fit_if f false i l = inv.fit i l

  -- no node has come to lead a group
  pub shrinks : ((g i : ℕ) → leads g (settings_after c (at ns i).settings) ≡ true → leads g (at ns i).settings ≡ true)
      → Alone h.n ms
  shrinks s g i j l m p q = inv.alone g i j l m (led i l p) (led j m q)
    where
      led_if : (i : ℕ) (b : Bool) → leads g (cond b (settings_after c (at ns i).settings) (at ns i).settings) ≡ true → leads g (at ns i).settings ≡ true
      led_if i true p = s g i p
      led_if i false p = p

      led : (i : ℕ) → i < h.n → leads g (at ms i).settings ≡ true → leads g (at ns i).settings ≡ true
      led i l p = led_if i (x.did i) (rw (x.settings i (omega (arith, inv.long))) at p)

  -- the invariant after the report, from what each kind of command must show; the walk then stands at w
  module _ (t : Session) (to : Address) (m : Command) (w : ℕ) (k : Concluded h a to m w t) where
    pub stepped : fits_of c ≡ true → w ≤ h.n
        → ((i : ℕ) → i < h.n → Sound (note_of a (reach_of to (suc i) (entry_at h i)) m (entry_at h i)) (at ms i).settings)
        → ((i : ℕ) → i < w → PlacedAt ms i)
        → ((i : ℕ) → w < i → i < h.n → UnplacedAt ms i)
        → (w < h.n → EdgeAt (note_of a (reach_of to (suc w) (entry_at h w)) m (entry_at h w)) ms w)
        → Alone h.n ms
        → Invariant t ms
    stepped fits walked held front back edge alone =
        let n = k.nodes in
        record {
          begun = k.begun ∙ inv.begun;
          long = x.long ∙ inv.long ∙ sym n;
          some = rw n inv.some;
          few = rw n inv.few;
          full = k.full;
          walked = rw (n, k.walk) walked;
          held = λ i l. rw (k.entry i (omega arith)) (held i (omega arith));
          front = λ i l. front i (omega (arith, k.walk));
          back = λ i l e. back i (omega (arith, k.walk)) (omega arith);
          edge = λ l. rw (k.walk, k.entry w (omega (arith, k.walk))) (edge (omega (arith, k.walk)));
          alone = λ g i j l e. alone g i j (omega arith) (omega arith);
          fit = λ i l. rw (x.settings i (omega (arith, inv.long))) (fit_if fits (x.did i) i (omega arith));
          kinds = λ i l.
              ap (λ (e : Entry). e.kind) (k.entry i (omega arith)) ∙ kind_noted a (reach_of to (suc i) (entry_at h i)) m (entry_at h i) ∙ inv.kinds i (omega arith)
              ∙ sym (x.kind i (omega (arith, inv.long)));
        }
