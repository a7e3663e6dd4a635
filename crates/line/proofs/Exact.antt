-- One entry against what was sent and answered: a command that counts keeps them together.
use Prim.Native.Nat.{ℕ}
use mathlib.Core.Bool.{Bool, true, false, cond, not, ◌&&◌, ◌||◌, and-false, true≢false}
use mathlib.Core.List.{List, ◌∷◌}
use mathlib.Core.Path.{◌≡◌, refl, ◌∙◌}
use lib.Dec.{eqb}
use Rattle.wire.specs.declared.address.Address.{Address}
use Rattle.wire.specs.declared.address.Address.TheVariants as address
use Rattle.command.specs.declared.Place.{Place}
use Rattle.command.specs.declared.Command.{Command}
use Rattle.command.specs.declared.Role.{Role}
use Rattle.command.specs.declared.Role.TheVariants.{Plain, Places, Paces, Masks, Captures, Zeroes, Idles, Resets}
use Rattle.command.specs.Role.{role_of}
use Rattle.status.specs.declared.Answer.{Answer}
use Rattle.status.specs.declared.Answer.TheVariants.{Clear, Marked, Silent}
use Rattle.node.specs.Setting.{Setting, place}
use Rattle.node.specs.Effect.{Effect, keeps, stores, copies, effect, writes}
use Rattle.node.proofs.Laws.{place_effect, place_effect_lem}
use Rattle.entry.specs.declared.Entry.{Entry}
use Rattle.entry.specs.declared.Reach.{Reach}
use Rattle.entry.specs.declared.Reach.TheVariants.{Misses, Hits, May}
use Rattle.entry.specs.Entry.{knows, shows, note_of, note_flag, note_value}
use Rattle.entry.proofs.Entries.{knows_noted, shows_noted}
use Rattle.ledger.specs.Ledger.{reach_of}
use Rattle.line.specs.History.{Counted, answers, place_in, last_place, copied, goes, in_doubt}

-- the entry of node k says what the history says
pub record Exact (e : Entry) (past : List Counted) (k : ℕ) : Type 0 where
  pub known : (s : Setting) → knows e s ≡ not (in_doubt past k s)
  pub place : shows e place ≡ last_place past k

abbrev pub is_clear : Answer → Bool
is_clear Clear = true
is_clear Marked = false
is_clear Silent = false

-- an answer that makes its command count
abbrev pub Counts : Answer → Type 0
Counts Clear = Unit {0}
Counts Marked = ⊥
Counts Silent = Unit {0}

-- the host's belief about the way, against `goes` and `answers`
abbrev Way : Reach → Bool → Bool → Type 0
Way Misses g o = g ≡ false
Way Hits g o = (g ≡ true) × (o ≡ true)
Way May g o = (g ≡ true) × (o ≡ false)

-- one setting; d says which were in doubt
flag_exact : {s : Setting} (a : Answer) → Counts a → (r : Reach) (f : Effect s) (e : Entry) (g o : Bool) (d : Setting → Bool) → Way r g o
    → ((t : Setting) → knows e t ≡ not (d t)) → note_flag a r f e ≡ not (cond (g && writes f) (not (is_clear a && o) || copied f d) (d s))
flag_exact {s} Clear t Misses f e g o d w p = rw w (p s)
flag_exact {s} Clear t Hits keeps e g o d w p = rw (and-false g) (p s)
flag_exact Clear t Hits (stores v) e g o d w p = rw (w.0, w.1) refl
flag_exact Clear t Hits (copies u f) e g o d w p = rw (w.0, w.1) (p u)
flag_exact {s} Clear t May keeps e g o d w p = rw (and-false g) (p s)
flag_exact Clear t May (stores v) e g o d w p = rw (w.0, w.1) refl
flag_exact Clear t May (copies u f) e g o d w p = rw (w.0, w.1) refl
flag_exact {s} Silent t Misses f e g o d w p = rw w (p s)
flag_exact {s} Silent t Hits keeps e g o d w p = rw (and-false g) (p s)
flag_exact Silent t Hits (stores v) e g o d w p = rw w.0 refl
flag_exact Silent t Hits (copies u f) e g o d w p = rw w.0 refl
flag_exact {s} Silent t May keeps e g o d w p = rw (and-false g) (p s)
flag_exact Silent t May (stores v) e g o d w p = rw w.0 refl
flag_exact Silent t May (copies u f) e g o d w p = rw w.0 refl
flag_exact {s = s} Marked t r f e g o d w p = elim t [ ]

way_node : (b : Bool) → Way (cond b Hits Misses) b true
way_node true = (refl, refl)
way_node false = refl

-- a node known to be in the group, or not: its leader, or another member
way_member : (b leads : Bool) → Way (cond b (cond leads Hits May) Misses) b (leads && b)
way_member true true = (refl, refl)
way_member true false = (refl, refl)
way_member false leads = refl

way_group : (g : ℕ) (e : Entry) (p : Place) (d : Bool) → knows e place ≡ not d → shows e place ≡ p
    → Way (cond (knows e place) (cond (eqb (shows e place).group.0 g) (cond (shows e place).leader Hits May) Misses) May)
    (d || eqb p.group.0 g) (not d && p.leader && eqb p.group.0 g)
way_group g e p true k q = rw k (refl, refl)
way_group g e p false k q = rw (k, q) (way_member (eqb p.group.0 g) p.leader)

way : (to : Address) (k : ℕ) (e : Entry) (past : List Counted) → Exact e past k
    → Way (reach_of to k e) (goes to k (in_doubt past k place) (last_place past k)) (answers to (in_doubt past k place) (last_place past k))
way (address.Individual i) k e past x = way_node (eqb i.0 k)
way (address.Group g) k e past x = way_group g.0 e (last_place past k) (in_doubt past k place) (x.known place) x.place

-- no command copies a place
copies_by : (r : Role) → copied (place_effect r) (λ t. true) ≡ false
copies_by Plain = refl
copies_by (Places p) = refl
copies_by (Paces d) = refl
copies_by (Masks m) = refl
copies_by Captures = refl
copies_by Zeroes = refl
copies_by Idles = refl
copies_by Resets = refl

not_copied : (c : Command) → copied (effect c place) (λ t. true) ≡ false
not_copied c = rw (place_effect_lem c) (copies_by (role_of c))

-- what goes to a group writes no place
abbrev pub Sendable : Address → Command → Type 0
Sendable (address.Individual i) c = Unit {0}
Sendable (address.Group g) c = writes (effect c place) ≡ false

place_node : (a : Answer) → Counts a → (b : Bool) (f : Effect place) → copied f (λ t. true) ≡ false → (e : Entry) (q : Place) → shows e place ≡ q
    → note_value a (cond b Hits Misses) f e ≡ cond (is_clear a && b) (place_in f q) q
place_node Clear t true keeps n e q p = p
place_node Clear t true (stores v) n e q p = refl
place_node Clear t true (copies u f) n e q p = absurd (true≢false n)
place_node Clear t false f n e q p = p
place_node Silent t b f n e q p = p
place_node Marked t b f n e q p = elim t [ ]

place_group : (a : Answer) → Counts a → (r : Reach) (f : Effect place) → writes f ≡ false → (e : Entry) (q : Place) → shows e place ≡ q
    → note_value a r f e ≡ cond (is_clear a && false) (place_in f q) q
place_group Clear t Misses f n e q p = p
place_group Clear t Hits keeps n e q p = p
place_group Clear t Hits (stores v) n e q p = absurd (true≢false n)
place_group Clear t Hits (copies u f) n e q p = absurd (true≢false n)
place_group Clear t May f n e q p = p
place_group Silent t r f n e q p = p
place_group Marked t r f n e q p = elim t [ ]

place_exact : (a : Answer) → Counts a → (to : Address) (c : Command) → Sendable to c → (e : Entry) (past : List Counted) (k : ℕ) → Exact e past k
    → shows (note_of a (reach_of to k e) c e) place ≡ last_place (record { to = to; command = c; clear = is_clear a } ∷ past) k
place_exact a u (address.Individual i) c s e past k x =
    shows_noted a (reach_of (address.Individual i) k e) c e place ∙ place_node a u (eqb i.0 k) (effect c place) (not_copied c) e (last_place past k) x.place
place_exact a u (address.Group g) c s e past k x =
    shows_noted a (reach_of (address.Group g) k e) c e place
    ∙ place_group a u (reach_of (address.Group g) k e) (effect c place) s e (last_place past k) x.place

-- one more command that counts
pub exact_step : (a : Answer) → Counts a → (to : Address) (c : Command) → Sendable to c → (e : Entry) (past : List Counted) (k : ℕ) → Exact e past k
    → Exact (note_of a (reach_of to k e) c e) (record { to = to; command = c; clear = is_clear a } ∷ past) k
exact_step a u to c s e past k x = record {
  known = λ t. knows_noted a (reach_of to k e) c e t
      ∙ flag_exact a u (reach_of to k e) (effect c t) e (goes to k (in_doubt past k place) (last_place past k)) (answers to (in_doubt past k place) (last_place past k))
      (in_doubt past k) (way to k e past x) x.known;
  place = place_exact a u to c s e past k x;
}
