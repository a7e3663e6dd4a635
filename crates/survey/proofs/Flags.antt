-- What the look along the chain has seen, as sets of the nodes that act and of those that reply.
use Rattle.std.proofs.Common.{◌≡◌, ℕ, suc, ◌+◌, ◌*◌, ◌/◌, ◌%◌, ◌^◌, ◌<◌, ◌≤◌, Bool, true, false, cond, ◌&&◌, List, [], ◌∷◌, length, Result, Ok, Err, sym, refl, ap, ◌∙◌, pow-suc, arith, pow_mono}
use Rattle.wire.specs.Numbers.{most_nodes}
use Rattle.wire.specs.declared.address.Address.{Address}
use Rattle.wire.specs.declared.refusal.Refusal.{Refusal}
use Rattle.node.specs.declared.state.Node.{Node}
use Rattle.message.specs.declared.Messages.{Messages}
use Rattle.survey.specs.declared.plan.Incoming.{Incoming}
use Rattle.survey.specs.declared.plan.Seen.{Seen}
use Rattle.survey.specs.One.{does_act, does_reply, take_for, turned, is_ranged}
use Rattle.survey.specs.Chain.{turned_from, repliers_from, all_ranged}
use Rattle.survey.specs.Sets.{join_of, members_from}
use Rattle.survey.specs.Survey.{chain_start, glance_for, glance_past, glances_of}
use Rattle.survey.specs.Decision.{act_all}

-- what f says of each node and its `near`
abbrev pub flags_from : (Bool → Node → Bool) → Bool → List Node → List Bool
flags_from f near [] = []
flags_from f near (n ∷ ns) = f near n ∷ flags_from f n.addressed ns

-- those of whom it is true, as a set whose first node has the digit w
abbrev pub set_from : ℕ → List Bool → ℕ
set_from w [] = 0
set_from w (b ∷ bs) = cond b w 0 + set_from (w + w) bs

abbrev pub set_of : List Bool → ℕ
set_of bs = set_from 1 bs

-- ---- what was seen is that set

joined_plain : (s w : ℕ) (b : Bool) → s < w → w + w < 2 ^ 32 → (join_of s w b ≡ s + cond b w 0) × (join_of s w b < w + w)
joined_plain s w true h k =
    let e : (s + w) % 2 ^ 32 ≡ s + w = omega (arith, h, k) in
    (e, omega (arith, e, h))
joined_plain s w false h k = (omega arith, omega (arith, h))

room : (w i m : ℕ) → w ≡ 2 ^ i → i + suc m ≤ 31 → (w + w < 2 ^ 32) × (w + w ≡ 2 ^ suc i)
room w i m e h =
    let q : suc i ≤ 31 = omega (arith, h) in
    let p : 2 ^ suc i ≤ 2 ^ 31 = pow_mono q in
    let d : w + w ≡ 2 ^ suc i = ap (λ (x : ℕ). x + x) e ∙ twice (2 ^ i) ∙ sym (pow-suc 2 i) in
    (omega (arith, p, d), d)
  where
    twice : (x : ℕ) → x + x ≡ x * 2
    twice x = omega arith

regroup : (a x y z : ℕ) → z ≡ a + x → z + y ≡ a + (x + y)
regroup a x y z e = omega (arith, e)

-- a packet that was read
abbrev pub read : ℕ → Address → Messages → Result Incoming Refusal
read at to h = Ok (record { to = to; at = at; messages = h })

-- one of the sets: it is `of s` when s was seen, and node i joins it if f says so
module _ (at : ℕ) (to : Address) (h : Messages) (f : Bool → Node → Bool) (of : Seen → ℕ)
    (joins : (s : Seen) (n : Node) → of (glance_for at to s n) ≡ join_of (of s) s.weight (f s.near n)) where
  seen_from : (s : Seen) (ns : List Node) (i : ℕ) → s.weight ≡ 2 ^ i → of s < s.weight → i + length ns ≤ most_nodes
      → of (glances_of (read at to h) s ns) ≡ of s + set_from s.weight (flags_from f s.near ns)
  unfolding glance_for
  seen_from s [] i d a b = omega arith
  seen_from s (n ∷ ns) i d a b =
      let w = s.weight in
      let t = f s.near n in
      let bs = flags_from f n.addressed ns in
      let r = room w i (length ns) d b in
      let e : (w + w) % 2 ^ 32 ≡ w + w = omega (arith, r.0) in
      let p = joined_plain (of s) w t a r.0 in
      let k : of (glance_for at to s n) < (w + w) % 2 ^ 32 = rw (joins s n, e) p.1 in
      seen_from (glance_for at to s n) ns (suc i) (e ∙ r.1) k (omega (arith, b))
      ∙ ap (λ (v : ℕ). of (glance_for at to s n) + set_from v bs) e
      ∙ regroup (of s) (cond t w 0) (set_from (w + w) bs) (of (glance_for at to s n)) (joins s n ∙ p.0)

  pub seen_set : (ns : List Node) → of chain_start ≡ 0 → length ns ≤ most_nodes → of (glances_of (read at to h) chain_start ns) ≡ set_of (flags_from f true ns)
  seen_set ns e b =
      let z : of chain_start < 1 = omega (arith, e) in
      let g = seen_from chain_start ns 0 refl z (omega (arith, b)) in
      omega (arith, g, e)

pub seen_acting : (at : ℕ) (to : Address) (h : Messages) (ns : List Node) → length ns ≤ most_nodes → (glances_of (read at to h) chain_start ns).acting ≡ set_of (flags_from (does_act at to) true ns)
unfolding glance_for
seen_acting at to h ns b = seen_set at to h (does_act at to) (λ (s : Seen). s.acting) (λ s n. refl) ns refl b

pub seen_replying : (at : ℕ) (to : Address) (h : Messages) (ns : List Node) → length ns ≤ most_nodes → (glances_of (read at to h) chain_start ns).replying ≡ set_of (flags_from (does_reply at to) true ns)
unfolding glance_for
seen_replying at to h ns b = seen_set at to h (does_reply at to) (λ (s : Seen). s.replying) (λ s n. refl) ns refl b

and_assoc : (a b c : Bool) → ((a && b) && c) ≡ (a && (b && c))
and_assoc true b c = refl
and_assoc false b c = refl

-- every record, whether the packet can be read or not
pub seen_ranged : (c : Result Incoming Refusal) (s : Seen) (ns : List Node) → (glances_of c s ns).ranged ≡ (s.ranged && all_ranged ns)
unfolding glance_for glance_past
seen_ranged c s [] = and_true s.ranged
  where
    and_true : (b : Bool) → b ≡ (b && true)
    and_true true = refl
    and_true false = refl
seen_ranged (Ok c) s (n ∷ ns) = seen_ranged (Ok c) (glance_for c.at c.to s n) ns ∙ and_assoc s.ranged (is_ranged n.settings.place) (all_ranged ns)
seen_ranged (Err why) s (n ∷ ns) = seen_ranged (Err why) (glance_past s n) ns ∙ and_assoc s.ranged (is_ranged n.settings.place) (all_ranged ns)

-- ---- the first node and the others

double : (w : ℕ) (bs : List Bool) → set_from (w + w) bs ≡ set_from w bs + set_from w bs
double w [] = refl
double w (true ∷ bs) = let e : set_from (w + w + (w + w)) bs ≡ set_from (w + w) bs + set_from (w + w) bs = double (w + w) bs in omega (arith, e)
double w (false ∷ bs) = let e : set_from (w + w + (w + w)) bs ≡ set_from (w + w) bs + set_from (w + w) bs = double (w + w) bs in omega (arith, e)

pub low : (b : Bool) (bs : List Bool) → set_of (b ∷ bs) % 2 ≡ cond b 1 0
low true bs = let e : set_from 2 bs ≡ set_from 1 bs + set_from 1 bs = double 1 bs in omega (arith, e)
low false bs = let e : set_from 2 bs ≡ set_from 1 bs + set_from 1 bs = double 1 bs in omega (arith, e)

pub high : (b : Bool) (bs : List Bool) → set_of (b ∷ bs) / 2 ≡ set_of bs
high true bs = let e : set_from 2 bs ≡ set_from 1 bs + set_from 1 bs = double 1 bs in omega (arith, e)
high false bs = let e : set_from 2 bs ≡ set_from 1 bs + set_from 1 bs = double 1 bs in omega (arith, e)

-- ---- who replies, and who acts

member_step : (k i : ℕ) (b : Bool) (x : ℕ) (rest : List ℕ) → x % 2 ≡ cond b 1 0 → members_from k (suc i) (x / 2) ≡ rest → members_from (suc k) i x ≡ cond b (i ∷ rest) rest
member_step k i true x rest e f = rw (e, f)
member_step k i false x rest e f = rw (e, f)

pub repliers_are : (at : ℕ) (to : Address) (i : ℕ) (near : Bool) (ns : List Node) → members_from (length ns) i (set_of (flags_from (does_reply at to) near ns)) ≡ repliers_from at to i near ns
repliers_are at to i near [] = refl
repliers_are at to i near (n ∷ ns) =
    let b = does_reply at to near n in
    let bs = flags_from (does_reply at to) n.addressed ns in
    member_step (length ns) i b (set_of (b ∷ bs)) (repliers_from at to (suc i) n.addressed ns) (low b bs)
    (ap (λ (x : ℕ). members_from (length ns) (suc i) x) (high b bs) ∙ repliers_are at to (suc i) n.addressed ns)

visit_step : (h : Messages) (b : Bool) (x : ℕ) (n : Node) (ns rest : List Node) → x % 2 ≡ cond b 1 0 → act_all h (x / 2) ns ≡ rest → act_all h x (n ∷ ns) ≡ cond b (take_for h n) n ∷ rest
visit_step h true x n ns rest e f = rw (e, f)
visit_step h false x n ns rest e f = rw (e, f)

pub actors_turn : (at : ℕ) (to : Address) (h : Messages) (near : Bool) (ns : List Node) → act_all h (set_of (flags_from (does_act at to) near ns)) ns ≡ turned_from at to h near ns
unfolding turned
actors_turn at to h near [] = refl
actors_turn at to h near (n ∷ ns) =
    let b = does_act at to near n in
    let bs = flags_from (does_act at to) n.addressed ns in
    visit_step h b (set_of (b ∷ bs)) n ns (turned_from at to h n.addressed ns) (low b bs)
    (ap (λ (x : ℕ). act_all h x ns) (high b bs) ∙ actors_turn at to h n.addressed ns)
