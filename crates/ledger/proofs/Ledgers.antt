-- The record node by node: the entry of node i + 1 has index i. Whoever speaks of one node needs only these.
use Prim.Native.Nat.{ℕ, zero, suc, ◌+◌, ◌<◌, ◌≤◌}
use mathlib.Core.Bool.{Bool, true, false, cond, not, ◌&&◌, ◌||◌, false≢true, true≢false}
use mathlib.Core.List.{List, [], ◌∷◌}
use mathlib.Core.Path.{◌≡◌, refl, ap, ◌∙◌}
use native.Mathlib.Nat.{not-suc-le-zero, le_of_suc-le-suc}
use native.Mathlib.Omega.{arith}
use mathlib.Core.Logic.{◌⊎◌, inl, inr, ⊎_elim}
use lib.Dec.{eqb}
use lib.ListN.{length, get_or, replicate}
use borrow.Author.Tests.{le-ltb, eq-eqb, ne_eqb, not-true, not-false}
use Rattle.wire.proofs.Choice.{both, neither, chose_first}
use Rattle.wire.specs.declared.address.Group.{Group}
use Rattle.wire.specs.declared.address.Address.{Address}
use Rattle.wire.specs.declared.kind.Kind.{Kind}
use Rattle.wire.specs.declared.kind.Kind.TheVariants.{Gate}
use Rattle.command.specs.declared.Command.{Command}
use Rattle.command.specs.declared.Command.TheVariants.{HardReset}
use Rattle.command.specs.Owner.{has}
use Rattle.command.specs.Divisors.{is_listed}
use Rattle.command.proofs.Lists.{gate_lists}
use Rattle.status.specs.declared.Answer.{Answer}
use Rattle.status.specs.declared.Answer.TheVariants.{Clear, Marked, Silent}
use Rattle.node.specs.Setting.{place}
use Rattle.entry.specs.declared.Entry.{Entry}
use Rattle.entry.specs.declared.Reach.{Reach}
use Rattle.entry.specs.declared.Reach.TheVariants.{Misses, Hits, May}
use Rattle.entry.specs.Entry.{knows, shows, entry_power_up, note_of, doubt_of, Quiet}
use Rattle.entry.proofs.Entries.{quiet_noted, kind_noted}
use Rattle.ledger.specs.Ledger.{all_gates, telling, ledger_power_up, ledger_least, reach_of, each_from, settling, settle_of, forget_of, is_rival, any_from, is_led, may_reach, does_lack, is_lacked, lacks_divisor, is_unlisted, is_off_list}
use Rattle.ledger.proofs.Turns.{length_each, gates_31}

-- n itself, where there are entries for it
least_is : (n : ℕ) → n ≤ 31 → ledger_least n ≡ n
unfolding ledger_least
least_is n h = rw (le-ltb 31 n h)

at_each : (f : ℕ → Entry → Entry) (j n i : ℕ) (es : List Entry) (d : Entry) → i < n → i < length es → get_or (each_from f j n es) i d ≡ f (j + i) (get_or es i d)
unfolding each_from
at_each f j zero i es d p q = absurd (not-suc-le-zero p)
at_each f j (suc n) i [] d p q = absurd (not-suc-le-zero q)
at_each f j (suc n) zero (e ∷ es) d p q = ap (λ (m : ℕ). f m e) (omega arith)
at_each f j (suc n) (suc i) (e ∷ es) d p q =
    at_each f (suc j) n i es d (le_of_suc-le-suc p) (le_of_suc-le-suc q) ∙ ap (λ (m : ℕ). f m (get_or es i d)) (omega arith)

past_each : (f : ℕ → Entry → Entry) (j n i : ℕ) (es : List Entry) (d : Entry) → n ≤ i → get_or (each_from f j n es) i d ≡ get_or es i d
unfolding each_from
past_each f j zero i es d p = refl
past_each f j (suc n) i [] d p = refl
past_each f j (suc n) zero (e ∷ es) d p = absurd (not-suc-le-zero p)
past_each f j (suc n) (suc i) (e ∷ es) d p = past_each f (suc j) n i es d (le_of_suc-le-suc p)

-- a rule that leaves every entry's kind
kind_each : (f : ℕ → Entry → Entry) → ((k : ℕ) (e : Entry) → (f k e).kind ≡ e.kind) → (j n i : ℕ) (es : List Entry) (d : Entry)
    → (get_or (each_from f j n es) i d).kind ≡ (get_or es i d).kind
unfolding each_from
kind_each f h j zero i es d = refl
kind_each f h j (suc n) i [] d = refl
kind_each f h j (suc n) zero (e ∷ es) d = h j e
kind_each f h j (suc n) (suc i) (e ∷ es) d = kind_each f h (suc j) n i es d

module _ (a : Answer) (to : Address) (c : Command) (n : ℕ) (es : List Entry) where
  pub length_settled : length (settle_of a to c n es) ≡ length es
  unfolding settle_of
  length_settled = length_each (settling a to c) 1 (ledger_least n) es

  -- the entry of a node 1 to n
  pub settled_at : (i : ℕ) (d : Entry) → n ≤ 31 → i < n → i < length es
      → get_or (settle_of a to c n es) i d ≡ note_of a (reach_of to (suc i) (get_or es i d)) c (get_or es i d)
  unfolding settle_of
  settled_at i d h p q =
      let m : i < ledger_least n = rw (least_is n h) p in
      at_each (settling a to c) 1 (ledger_least n) i es d m q ∙ ap (λ (k : ℕ). settling a to c k (get_or es i d)) (omega arith)

  -- an entry past n stays
  pub settled_past : (i : ℕ) (d : Entry) → n ≤ 31 → n ≤ i → get_or (settle_of a to c n es) i d ≡ get_or es i d
  unfolding settle_of
  settled_past i d h p = past_each (settling a to c) 1 (ledger_least n) i es d (rw (least_is n h) p)

  -- no exchange changes a node's kind
  pub kind_settled : (i : ℕ) (d : Entry) → (get_or (settle_of a to c n es) i d).kind ≡ (get_or es i d).kind
  unfolding settle_of
  kind_settled i d = kind_each (settling a to c) (λ k e. kind_noted a (reach_of to k e) c e) 1 (ledger_least n) i es d

same_each : (f : ℕ → Entry → Entry) → ((k : ℕ) (e : Entry) → f k e ≡ e) → (j n : ℕ) (es : List Entry) → each_from f j n es ≡ es
unfolding each_from
same_each f h j zero es = refl
same_each f h j (suc n) [] = refl
same_each f h j (suc n) (e ∷ es) = rw (h j e, same_each f h (suc j) n es)

-- a command that writes no setting leaves the record
pub settled_quiet : (c : Command) → Quiet c → (a : Answer) (to : Address) (n : ℕ) (es : List Entry) → settle_of a to c n es ≡ es
unfolding settle_of
settled_quiet c q a to n es = same_each (settling a to c) (λ k e. quiet_noted c q a (reach_of to k e) e) 1 (ledger_least n) es

-- and so does a command that may reach no node
missed_noted : (a : Answer) (r : Reach) (c : Command) (e : Entry) → may_reach r ≡ false → note_of a r c e ≡ e
missed_noted Marked r c e h = refl
missed_noted Clear Misses c e h = refl
missed_noted Silent Misses c e h = refl
missed_noted Clear Hits c e h = absurd (true≢false h)
missed_noted Clear May c e h = absurd (true≢false h)
missed_noted Silent Hits c e h = absurd (true≢false h)
missed_noted Silent May c e h = absurd (true≢false h)

module _ (a : Answer) (to : Address) (c : Command) where
  same_missed : (j n : ℕ) (es : List Entry) → any_from (λ k e. may_reach (reach_of to k e)) j n es ≡ false → each_from (settling a to c) j n es ≡ es
  unfolding each_from any_from
  same_missed j zero es h = refl
  same_missed j (suc n) [] h = refl
  same_missed j (suc n) (e ∷ es) h =
      let m = neither (may_reach (reach_of to j e)) (any_from (λ k e. may_reach (reach_of to k e)) (suc j) n es) h in
      rw (missed_noted a (reach_of to j e) c e m.0, same_missed (suc j) n es m.1)

  pub settled_unreached : (n : ℕ) (es : List Entry) → any_from (λ k e. may_reach (reach_of to k e)) 1 (ledger_least n) es ≡ false → settle_of a to c n es ≡ es
  unfolding settle_of
  settled_unreached n es h = same_missed 1 (ledger_least n) es h

-- after a Hard Reset
pub length_forgotten : (es : List Entry) → length (forget_of es) ≡ length es
unfolding forget_of
length_forgotten [] = refl
length_forgotten (e ∷ es) = ap suc (length_forgotten es)

pub forgotten_at : (es : List Entry) (i : ℕ) (d : Entry) → i < length es → get_or (forget_of es) i d ≡ doubt_of HardReset (get_or es i d)
unfolding forget_of
forgotten_at [] i d h = absurd (not-suc-le-zero h)
forgotten_at (e ∷ es) zero d h = refl
forgotten_at (e ∷ es) (suc i) d h = forgotten_at es i d (le_of_suc-le-suc h)

-- nor does a Hard Reset
pub kind_forgotten : (es : List Entry) (i : ℕ) (d : Entry) → (get_or (forget_of es) i d).kind ≡ (get_or es i d).kind
unfolding forget_of
kind_forgotten [] i d = refl
kind_forgotten (e ∷ es) zero d = refl
kind_forgotten (e ∷ es) (suc i) d = kind_forgotten es i d

-- at power-up
pub length_gates : length all_gates ≡ 31
length_gates = gates_31

at_replicate : (m i : ℕ) (e d : Entry) → i < m → get_or (replicate m e) i d ≡ e
at_replicate zero i e d h = absurd (not-suc-le-zero h)
at_replicate (suc m) zero e d h = refl
at_replicate (suc m) (suc i) e d h = at_replicate m i e d (le_of_suc-le-suc h)

at_gates : (i : ℕ) (d : Entry) → i < 31 → get_or all_gates i d ≡ entry_power_up Gate
unfolding all_gates
at_gates i d h = at_replicate 31 i (entry_power_up Gate) d h

pub length_up : (n : ℕ) (ks : List Kind) → length (ledger_power_up n ks) ≡ 31
unfolding ledger_power_up
length_up n ks = length_each (telling ks) 1 (ledger_least n) all_gates ∙ length_gates

-- the entry of a node 1 to n
pub up_at : (n : ℕ) (ks : List Kind) (i : ℕ) (d : Entry) → n ≤ 31 → i < n → get_or (ledger_power_up n ks) i d ≡ entry_power_up (get_or ks i Gate)
unfolding ledger_power_up telling
up_at n ks i d h l =
    let m : i < ledger_least n = rw (least_is n h) l in
    let q : i < length all_gates = rw length_gates (omega arith) in
    at_each (telling ks) 1 (ledger_least n) i all_gates d m q ∙ ap (λ (k : ℕ). entry_power_up (get_or ks k Gate)) (omega arith)

-- beyond n all are gates
pub up_past : (n : ℕ) (ks : List Kind) (i : ℕ) (d : Entry) → n ≤ 31 → n ≤ i → i < 31 → get_or (ledger_power_up n ks) i d ≡ entry_power_up Gate
unfolding ledger_power_up
up_past n ks i d h l m = past_each (telling ks) 1 (ledger_least n) i all_gates d (rw (least_is n h) l) ∙ at_gates i d m

-- so whatever is told, where there is no node
pub none_up : (ks : List Kind) → ledger_power_up 0 ks ≡ all_gates
unfolding ledger_power_up ledger_least each_from
none_up ks = refl

-- a node, another than k, that leads group g or has its place in doubt
pub record Rival (k : ℕ) (g : Group) (n : ℕ) (es : List Entry) (d : Entry) : Type 0 where
  pub index : ℕ
  pub counted : index < n
  pub other : suc index ≡ k → ⊥
  pub rival : is_rival k g (suc index) (get_or es index d) ≡ true

-- no such node: for each node, another than k, its place is known and it does not lead g
pub record Follower (g : Group) (e : Entry) : Type 0 where
  pub known : knows e place ≡ true
  pub follows : ((shows e place).leader && eqb (shows e place).group.0 g.0) ≡ false

or_true : (a b : Bool) → (a || b) ≡ true → (a ≡ true) ⊎ (b ≡ true)
or_true true b h = inl refl
or_true false b h = inr h

-- a search finds one
abbrev Found : (f : ℕ → Entry → Bool) (j n : ℕ) (es : List Entry) (d : Entry) → Type 0
Found f j n es d = (i : ℕ) × (i < n) × (f (j + i) (get_or es i d) ≡ true)

found_later : (f : ℕ → Entry → Bool) (j n : ℕ) (e : Entry) (es : List Entry) (d : Entry) → Found f (suc j) n es d → Found f j (suc n) (e ∷ es) d
found_later f j n e es d (i, p, q) = (suc i, omega arith, ap (λ (m : ℕ). f m (get_or es i d)) (omega arith) ∙ q)

found_from : (f : ℕ → Entry → Bool) (j n : ℕ) (es : List Entry) (d : Entry) → any_from f j n es ≡ true → Found f j n es d
unfolding any_from
found_from f j zero es d h = absurd (false≢true h)
found_from f j (suc n) [] d h = absurd (false≢true h)
found_from f j (suc n) (e ∷ es) d h =
    ⊎_elim (λ t. (0, omega arith, ap (λ (m : ℕ). f m e) (omega arith) ∙ t)) (λ t. found_later f j n e es d (found_from f (suc j) n es d t)) (or_true (f j e) _ h)

not_from : (f : ℕ → Entry → Bool) (j n i : ℕ) (es : List Entry) (d : Entry) → any_from f j n es ≡ false → i < n → i < length es → f (j + i) (get_or es i d) ≡ false
unfolding any_from
not_from f j zero i es d h p q = absurd (not-suc-le-zero p)
not_from f j (suc n) i [] d h p q = absurd (not-suc-le-zero q)
not_from f j (suc n) zero (e ∷ es) d h p q = ap (λ (m : ℕ). f m e) (omega arith) ∙ (neither (f j e) _ h).0
not_from f j (suc n) (suc i) (e ∷ es) d h p q =
    ap (λ (m : ℕ). f m (get_or es i d)) (omega arith) ∙ not_from f (suc j) n i es d (neither (f j e) _ h).1 (le_of_suc-le-suc p) (le_of_suc-le-suc q)

-- of nodes 1 to n: the one that a search found passes the test; if it found none, no node does
any_says : (f : ℕ → Entry → Bool) (n : ℕ) (es : List Entry) (d : Entry) → n ≤ 31 → any_from f 1 (ledger_least n) es ≡ true
    → (i : ℕ) × (i < n) × (f (suc i) (get_or es i d) ≡ true)
any_says f n es d few h =
    let t = found_from f 1 n es d (rw (least_is n few) at h) in
    (t.0, t.1, ap (λ (m : ℕ). f m (get_or es t.0 d)) (omega arith) ∙ t.2)

none_says : (f : ℕ → Entry → Bool) (n : ℕ) (es : List Entry) (d : Entry) → n ≤ 31 → any_from f 1 (ledger_least n) es ≡ false
    → (i : ℕ) → i < n → i < length es → f (suc i) (get_or es i d) ≡ false
none_says f n es d few h i p q = ap (λ (m : ℕ). f m (get_or es i d)) (omega arith) ∙ not_from f 1 n i es d (rw (least_is n few) at h) p q

-- what a rival is, as a test that failed says it
follower : (k : ℕ) (g : Group) (j : ℕ) (e : Entry) → (j ≡ k → ⊥) → is_rival k g j e ≡ false → Follower g e
follower k g j e p h =
    let t : (not (knows e place) || ((shows e place).leader && eqb (shows e place).group.0 g.0)) ≡ false = rw (ne_eqb j k p) at h in
    let u = neither (not (knows e place)) _ t in
    record { known = not-false (knows e place) u.0; follows = u.1 }

-- and a rival is another node
rival_other : (k : ℕ) (g : Group) (j : ℕ) (e : Entry) → is_rival k g j e ≡ true → j ≡ k → ⊥
rival_other k g j e h p = false≢true (rw (eq-eqb j k p) at h)

module _ (k : ℕ) (g : Group) (n : ℕ) (es : List Entry) (d : Entry) (few : n ≤ 31) where
  pub led_says : is_led k g n es ≡ true → Rival k g n es d
  unfolding is_led
  led_says h =
      let t = any_says (is_rival k g) n es d few h in
      record { index = t.0; counted = t.1; other = rival_other k g (suc t.0) (get_or es t.0 d) t.2; rival = t.2 }

  pub free_says : is_led k g n es ≡ false → (i : ℕ) → i < n → i < length es → (suc i ≡ k → ⊥) → Follower g (get_or es i d)
  unfolding is_led
  free_says h i p q x = follower k g (suc i) (get_or es i d) x (none_says (is_rival k g) n es d few h i p q)

-- a node that a command may reach and whose kind lacks it
pub record Lacking (to : Address) (c : Command) (n : ℕ) (es : List Entry) (d : Entry) : Type 0 where
  pub index : ℕ
  pub counted : index < n
  pub reached : may_reach (reach_of to (suc index) (get_or es index d)) ≡ true
  pub lacking : has (get_or es index d).kind c ≡ false

module _ (to : Address) (c : Command) (n : ℕ) (es : List Entry) (d : Entry) (few : n ≤ 31) where
  -- 17: there is one
  pub lacked_says : is_lacked to c n es ≡ true → Lacking to c n es d
  unfolding is_lacked
  lacked_says h =
      let t = any_says (does_lack to c) n es d few h in
      let u = both (may_reach (reach_of to (suc t.0) (get_or es t.0 d))) (not (has (get_or es t.0 d).kind c)) t.2 in
      record { index = t.0; counted = t.1; reached = u.0; lacking = not-true (has (get_or es t.0 d).kind c) u.1 }

  -- not 17: every node 1 to n that the command may reach has it
  pub had_says : is_lacked to c n es ≡ false → (i : ℕ) → i < n → i < length es → may_reach (reach_of to (suc i) (get_or es i d)) ≡ true
      → has (get_or es i d).kind c ≡ true
  unfolding is_lacked
  had_says h i p q r =
      let z : (may_reach (reach_of to (suc i) (get_or es i d)) && not (has (get_or es i d).kind c)) ≡ false = none_says (does_lack to c) n es d few h i p q in
      not-false (has (get_or es i d).kind c) (rw r at z)

-- 18 says that there is a node whose manual doesn't list the divisor, and its absence that each node's does
module _ (v n : ℕ) (es : List Entry) (d : Entry) (few : n ≤ 31) where
  pub off_says : 1 ≤ n → is_off_list v n es ≡ true → (i : ℕ) × (i < n) × (is_listed (get_or es i d).kind v ≡ false)
  unfolding is_off_list is_unlisted
  off_says one h = go (is_listed Gate v) refl h
    where
      go : (b : Bool) → is_listed Gate v ≡ b → cond b (is_unlisted v n es) true ≡ true → (i : ℕ) × (i < n) × (is_listed (get_or es i d).kind v ≡ false)
      go true e h = let t = any_says (λ k. lacks_divisor v) n es d few h in (t.0, t.1, not-true (is_listed (get_or es t.0 d).kind v) t.2)
      go false e h = (0, one, gate_lists (get_or es 0 d).kind v e)

  pub on_says : is_off_list v n es ≡ false → (is_listed Gate v ≡ true) × ((i : ℕ) → i < n → i < length es → is_listed (get_or es i d).kind v ≡ true)
  unfolding is_off_list is_unlisted
  on_says h =
      let t = chose_first (is_listed Gate v) h true≢false in
      (t.0, λ i p q. not-false (is_listed (get_or es i d).kind v) (none_says (λ k. lacks_divisor v) n es d few t.1 i p q))
