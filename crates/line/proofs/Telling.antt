-- What a Nop to a node tells: it was heard at the divisor that it was sent at. The record and the history take it as a confirmed Set Baud Rate of that divisor, which the node holds already.
use Prim.Native.Nat.{ℕ, suc, ◌+◌, ◌≤◌, ◌<◌}
use mathlib.Core.Bool.{Bool, true, false, cond, true≢false, false≢true}
use mathlib.Core.List.{List, ◌∷◌}
use mathlib.Core.Logic.{inl, inr}
use mathlib.Core.Path.{◌≡◌, refl, sym, ap, subst, ◌∙◌}
use native.Mathlib.Omega.{arith}
use lib.Dec.{eqb}
use lib.ListN.{length}
use borrow.Author.Tests.{eqb-true}
use Rattle.wire.specs.declared.address.Address.{Address}
use Rattle.wire.specs.declared.address.Address.TheVariants as address
use Rattle.wire.proofs.Choice.{both, same}
use Rattle.command.specs.declared.Command.{Command}
use Rattle.command.specs.declared.Command.TheVariants.{SetBaudRate, Nop}
use Rattle.command.proofs.Roles.{only_nop}
use Rattle.status.specs.declared.Answer.TheVariants.{Clear}
use Rattle.node.specs.declared.state.Settings.{Settings}
use Rattle.node.specs.declared.state.Node.{Node}
use Rattle.node.specs.Setting.{place}
use Rattle.node.specs.Effect.{settings_after}
use Rattle.node.proofs.Laws.{paced_again}
use Rattle.survey.specs.One.{is_answering}
use Rattle.survey.specs.Chain.{near_at, hears_at}
use Rattle.survey.proofs.Hearing.{heard_at}
use Rattle.entry.specs.declared.Entry.{Entry}
use Rattle.entry.specs.declared.Reach.TheVariants.{Misses, Hits}
use Rattle.entry.specs.Entry.{knows, note_of}
use Rattle.entry.proofs.Entries.{knows_noted, kind_noted}
use Rattle.ledger.specs.Ledger.{blank_entry, reach_of}
use Rattle.ledger.proofs.Ledgers.{settled_at, length_settled}
use Rattle.session.specs.declared.Session.{Session}
use Rattle.session.specs.Session.{node_at, off_chain}
use Rattle.session.proofs.Sessions.{on_chain_lem}
use Rattle.reports.specs.Report.{is_telling, told_of}
use Rattle.line.specs.History.{Sending, sends, Counted, tells, learnt}
use Rattle.line.proofs.Exact.{exact_step}
use Rattle.line.proofs.Exactly.{Exactly}
use Rattle.line.proofs.Due.{Due, next, ask, order, regroup, paces}
use Rattle.line.proofs.Closing.{entry_at}
use Rattle.line.proofs.Sound.{Sound, told, fits_test, hits_test, noted_sound}
use Rattle.line.proofs.Invariant.{at, EdgeAt, Invariant, Answered, Exchanged}
use Rattle.line.proofs.Peace.{numbered_by}

-- the session t, told that node k heard at divisor v
module _ (t : Session) (v k : ℕ) (few : t.n ≤ 31) (full : length t.entries ≡ 31) where
  abbrev after : Session
  after = told_of t v (node_at k)

  -- each entry
  abbrev noted : ℕ → Entry
  noted i = note_of Clear (reach_of (node_at k) (suc i) (entry_at t i)) (SetBaudRate v) (entry_at t i)

  entry : (i : ℕ) → i < t.n → entry_at after i ≡ noted i
  entry i l = settled_at Clear (node_at k) (SetBaudRate v) t.n t.entries i blank_entry few l (omega arith)

  -- the history, one command more
  pub told_exactly : (past : List Counted) → Exactly t past → Exactly after (tells k v ∷ past)
  told_exactly past x i l = rw (entry i l) (exact_step Clear tt (node_at k) (SetBaudRate v) tt (entry_at t i) past (suc i) (x i l))

  -- what is known is held: the node has the divisor already
  module _ (ms : List Node) (inv : Invariant t ms) (holds : (i : ℕ) → i < t.n → suc i ≡ k → (at ms i).settings.divisor ≡ v) where
    heard : (i : ℕ) → i < t.n → (b : Bool) → eqb k (suc i) ≡ b → cond b (settings_after (SetBaudRate v) (at ms i).settings) (at ms i).settings ≡ (at ms i).settings
    heard i l true e = paced_again (at ms i).settings v (holds i l (sym (eqb-true k (suc i) e)))
    heard i l false e = refl

    held : (i : ℕ) → i < t.n → Sound (noted i) (at ms i).settings
    held i l =
        let b = eqb k (suc i) in
        subst (Sound (noted i)) (heard i l b refl)
        (noted_sound Clear (cond b Hits Misses) (SetBaudRate v) (entry_at t i) (at ms i).settings b
        (told Clear (cond b Hits Misses) b (λ e. absurd (true≢false (cc e))) (λ e. hits_test b)) (fits_test b b (λ e. e)) (inv.held i l))

    -- a place is no divisor
    place_kept : (i : ℕ) (b : Bool) → knows (note_of Clear (cond b Hits Misses) (SetBaudRate v) (entry_at t i)) place ≡ knows (entry_at t i) place
    place_kept i true = knows_noted Clear Hits (SetBaudRate v) (entry_at t i) place
    place_kept i false = refl

    edge_kept : EdgeAt (entry_at t t.walk) ms t.walk → EdgeAt (noted t.walk) ms t.walk
    edge_kept (inl u) = inl u
    edge_kept (inr p) = inr (place_kept t.walk (eqb k (suc t.walk)) ∙ p.0, p.1, p.2)

    pub told_invariant : Invariant after ms
    told_invariant = record {
      begun = inv.begun;
      long = inv.long;
      some = inv.some;
      few = inv.few;
      full = length_settled Clear (node_at k) (SetBaudRate v) t.n t.entries ∙ full;
      walked = inv.walked;
      held = λ i l. rw (entry i l) (held i l);
      front = inv.front;
      back = inv.back;
      edge = λ l. rw (entry t.walk l) (edge_kept (inv.edge l));
      alone = inv.alone;
      fit = inv.fit;
      kinds = λ i l. ap (λ (e : Entry). e.kind) (entry i l) ∙ kind_noted Clear (reach_of (node_at k) (suc i) (entry_at t i)) (SetBaudRate v) (entry_at t i) ∙ inv.kinds i l;
    }

-- whoever answered a Nop to the address k, from 1 on, is node k, and holds the divisor
module _ (h : Session) (ns ms : List Node) (inv : Invariant h ns) (v k : ℕ) (one : 1 ≤ k) (x : Exchanged v (node_at k) Nop ns ms Clear) where
  abbrev o : Answered v (node_at k) ns x.did
  o = x.clear refl

  inside : o.index < h.n
  inside = omega (arith, o.inside, inv.long)

  hears_and_answers : (hears_at v ns o.index ≡ true) × (is_answering (node_at k) (at ns o.index).settings.place ≡ true)
  hears_and_answers = both (hears_at v ns o.index) (is_answering (node_at k) (at ns o.index).settings.place) o.replies

  pub answered_at : (i : ℕ) → i < h.n → suc i ≡ k → (at ms i).settings.divisor ≡ v
  answered_at i l e =
      let j : o.index ≡ i = omega (arith, numbered_by h ns inv k o.index one inside hears_and_answers.1) in
      let d : (at ns o.index).settings.divisor ≡ v = heard_at v (near_at true ns o.index) (at ns o.index) hears_and_answers.0 in
      ap (λ (s : Settings). s.divisor) (x.settings i (omega (arith, inv.long)) ∙ same (x.did i) (at ns i).settings)
      ∙ subst (λ (m : ℕ). (at ns m).settings.divisor ≡ v) j d

-- what tells: an "ask", or an order of a Nop to a node
pub record Tells (what : Sending) (called to : Address) (c : Command) : Type 0 where
  pub node : ℕ
  pub one : 1 ≤ node
  pub sent : called ≡ node_at node
  pub about : to ≡ node_at node
  pub nop : c ≡ Nop
  pub counts : (v : ℕ) (past : List Counted) → learnt what v past ≡ tells node v ∷ past

order_tells : (to : Address) (c : Command) → (n : ℕ) → off_chain n to ≡ false → is_telling to c ≡ true → Tells (sends to c) to to c
order_tells (address.Individual i) c n o e = record {
  node = i.0;
  one = (on_chain_lem n i o).low;
  sent = refl;
  about = refl;
  nop = only_nop c e;
  counts = λ v past. rw e;
}
order_tells (address.Group g) c n o e = absurd (false≢true e)

pub due_tells : {h : Session} {what : Sending} {called to : Address} {c : Command} → Due h what called to c → is_telling to c ≡ true → Tells what called to c
due_tells (next l k) e = absurd (false≢true e)
due_tells {h} (ask l k) e = record { node = h.walk + 1; one = omega arith; sent = refl; about = refl; nop = refl; counts = λ v past. refl }
due_tells {h} {to = to} {c = c} (order w o f y z) e = order_tells to c h.n o e
due_tells (regroup w o f) e = absurd (false≢true e)
due_tells (paces w f) e = absurd (false≢true e)

-- and what doesn't
order_untold : (to : Address) (c : Command) → is_telling to c ≡ false → (v : ℕ) (past : List Counted) → learnt (sends to c) v past ≡ past
order_untold (address.Individual i) c e v past = rw e
order_untold (address.Group g) c e v past = refl

pub due_untold : {h : Session} {what : Sending} {called to : Address} {c : Command} → Due h what called to c → is_telling to c ≡ false
    → (v : ℕ) (past : List Counted) → learnt what v past ≡ past
due_untold (next l k) e v past = refl
due_untold (ask l k) e v past = absurd (true≢false e)
due_untold {to = to} {c = c} (order w o f y z) e v past = order_untold to c e v past
due_untold (regroup w o f) e v past = refl
due_untold (paces w f) e v past = refl
