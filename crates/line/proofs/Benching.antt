-- The bench changes what is no setting: what holds of the nodes stays.
use Prim.Native.Nat.{ℕ, ◌<◌}
use mathlib.Core.Bool.{Bool, true, false}
use mathlib.Core.List.{List}
use mathlib.Core.Path.{◌≡◌, refl, sym, ap, ◌∙◌}
use native.Mathlib.Omega.{arith}
use lib.Dec.{eqb}
use lib.ListN.{length, set, length-set}
use lib.Seq.{get_or-set_same, get_or-set_other}
use borrow.Author.Tests.{eqb-true, eqb-false}
use Rattle.wire.specs.declared.address.Address.{Address}
use Rattle.command.specs.declared.Command.{Command}
use Rattle.status.specs.declared.Answer.{Answer}
use Rattle.node.specs.declared.state.Bench.{Bench}
use Rattle.node.specs.declared.state.Node.{Node}
use Rattle.survey.specs.Chain.{blank_node}
use Rattle.session.specs.declared.Session.{Session}
use Rattle.line.specs.World.{benched}
use Rattle.line.proofs.Invariant.{at, Invariant, Exchanged}

pub record Benched (ns ms : List Node) : Type 0 where
  pub long : length ms ≡ length ns
  pub settings : (i : ℕ) → i < length ns → (at ms i).settings ≡ (at ns i).settings
  pub addressed : (i : ℕ) → i < length ns → (at ms i).addressed ≡ (at ns i).addressed
  pub kind : (i : ℕ) → i < length ns → (at ms i).kind ≡ (at ns i).kind

module _ (ns : List Node) (j : ℕ) (b : Bench) (p : ℕ) where
  there : (i : ℕ) → i < length ns → j ≡ i → at (set ns j (benched b p (at ns j))) i ≡ benched b p (at ns i)
  there i l e = rw e (get_or-set_same ns i (benched b p (at ns i)) blank_node l)

  elsewhere : (i : ℕ) → (j ≡ i → ⊥) → at (set ns j (benched b p (at ns j))) i ≡ at ns i
  elsewhere i n = get_or-set_other ns j i (benched b p (at ns j)) blank_node (λ e. n (sym e))

  settings_same : (i : ℕ) → i < length ns → (t : Bool) → eqb j i ≡ t → (at (set ns j (benched b p (at ns j))) i).settings ≡ (at ns i).settings
  settings_same i l true e = ap (λ (n : Node). n.settings) (there i l (eqb-true j i e))
  settings_same i l false e = ap (λ (n : Node). n.settings) (elsewhere i (eqb-false j i e))

  addressed_same : (i : ℕ) → i < length ns → (t : Bool) → eqb j i ≡ t → (at (set ns j (benched b p (at ns j))) i).addressed ≡ (at ns i).addressed
  addressed_same i l true e = ap (λ (n : Node). n.addressed) (there i l (eqb-true j i e))
  addressed_same i l false e = ap (λ (n : Node). n.addressed) (elsewhere i (eqb-false j i e))

  kind_same : (i : ℕ) → i < length ns → (t : Bool) → eqb j i ≡ t → (at (set ns j (benched b p (at ns j))) i).kind ≡ (at ns i).kind
  kind_same i l true e = ap (λ (n : Node). n.kind) (there i l (eqb-true j i e))
  kind_same i l false e = ap (λ (n : Node). n.kind) (elsewhere i (eqb-false j i e))

  pub set_benched : Benched ns (set ns j (benched b p (at ns j)))
  set_benched = record {
    long = length-set ns j (benched b p (at ns j));
    settings = λ i l. settings_same i l (eqb j i) refl;
    addressed = λ i l. addressed_same i l (eqb j i) refl;
    kind = λ i l. kind_same i l (eqb j i) refl;
  }

pub benched_exchange : {v : ℕ} {called : Address} {c : Command} {ls ns ms : List Node} {a : Answer} → Benched ns ms → Exchanged v called c ls ns a → Exchanged v called c ls ms a
benched_exchange b x = record {
  did = x.did;
  acting = x.acting;
  long = b.long ∙ x.long;
  settings = λ i l. b.settings i (omega (arith, x.long)) ∙ x.settings i l;
  addressed = λ i l. b.addressed i (omega (arith, x.long)) ∙ x.addressed i l;
  kind = λ i l. b.kind i (omega (arith, x.long)) ∙ x.kind i l;
  marked = x.marked;
  clear = x.clear;
}

pub benched_invariant : (h : Session) (ns ms : List Node) → Benched ns ms → Invariant h ns → Invariant h ms
benched_invariant h ns ms b inv =
    let n = inv.long in
    let w = inv.walked in
    record {
      begun = inv.begun;
      long = b.long ∙ n;
      some = inv.some;
      few = inv.few;
      full = inv.full;
      walked = w;
      held = λ i l. rw (b.settings i (omega arith)) (inv.held i l);
      front = λ i l. rw (b.settings i (omega arith), b.addressed i (omega arith)) (inv.front i l);
      back = λ i l m. rw (b.settings i (omega arith), b.addressed i (omega arith)) (inv.back i l m);
      edge = λ l. rw (b.settings h.walk (omega arith), b.addressed h.walk (omega arith)) (inv.edge l);
      alone = λ g i j l m p q. inv.alone g i j l m (rw (b.settings i (omega arith)) at p) (rw (b.settings j (omega arith)) at q);
      fit = λ i l. rw (b.settings i (omega arith)) (inv.fit i l);
      kinds = λ i l. inv.kinds i l ∙ sym (b.kind i (omega arith));
    }
