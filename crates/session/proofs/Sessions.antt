-- What a valid session and a session that isn't closed are, in plain words; what any step of it comes to.
use Prim.Native.Nat.{ℕ, ◌+◌, ◌<◌, ◌≤◌}
use mathlib.Core.Bool.{Bool, true, false, cond, not, ◌&&◌, true≢false}
use mathlib.Core.Path.{◌≡◌, refl}
use lib.Dec.{ltb, leb}
use borrow.Author.Tests.{le-leb, lt-leb, ltb-false, leb-true, not-true, not-false}
use Rattle.wire.proofs.Choice.{both, neither}
use Rattle.wire.specs.Numbers.{done, most_nodes}
use Rattle.wire.specs.declared.address.Individual.{Individual}
use Rattle.wire.specs.declared.address.Address.TheVariants as address
use Rattle.wire.specs.declared.refusal.Refusal.{Refusal}
use Rattle.node.specs.Setting.{place}
use Rattle.entry.specs.Entry.{knows}
use Rattle.session.specs.declared.Session.{Session}
use Rattle.session.specs.declared.Step.{Step}
use Rattle.session.specs.Session.{Valid, off_chain, is_stray, is_valid, is_closed, is_ask_due, entry_of, step_number, refuse_of}

-- a valid session
pub record Bounds (s : Session) : Type 0 where
  pub few : s.n ≤ 31
  pub walked : s.walk ≤ s.n
  pub on_chain : is_stray s.n s.exchange ≡ false

pub valid_says : (s : Session) → is_valid s ≡ true → Bounds s
unfolding is_valid
valid_says s h =
    let t = both (leb s.n 31 && leb s.walk s.n) (not (is_stray s.n s.exchange)) h in
    let u = both (leb s.n 31) (leb s.walk s.n) t.0 in
    record { few = leb-true s.n 31 u.0; walked = leb-true s.walk s.n u.1; on_chain = not-true (is_stray s.n s.exchange) t.1 }

open_says : (v t : Bool) → cond v (not t) true ≡ false → (v ≡ true) × (t ≡ true)
open_says true t h = (refl, not-false t h)
open_says false t h = absurd (true≢false h)

pub closed_not : (s : Session) → is_closed s ≡ false → (is_valid s ≡ true) × (s.started ≡ true)
unfolding is_closed
closed_not s h = open_says (is_valid s) s.started h

-- whether the place of the walk's next node is in doubt
pub due_says : (s : Session) → s.walk < most_nodes → is_ask_due s ≡ not (knows (entry_of s (s.walk + 1)) place)
unfolding is_ask_due
due_says s h = rw (lt-leb most_nodes s.walk h)

-- a node 1 to n
pub record OnChain (n : ℕ) (i : Individual) : Type 0 where
  pub low : 1 ≤ i.0
  pub high : i.0 ≤ n

pub on_chain_lem : (n : ℕ) (i : Individual) → off_chain n (address.Individual i) ≡ false → OnChain n i
on_chain_lem n i h =
    let t = neither (ltb i.0 1) (ltb n i.0) h in
    record { low = ltb-false i.0 1 t.0; high = ltb-false n i.0 t.1 }

-- what is valid, from its parts
pub valid_from : (s : Session) → s.n ≤ 31 → s.walk ≤ s.n → is_stray s.n s.exchange ≡ false → is_valid s ≡ true
unfolding is_valid
valid_from s p q h = rw (le-leb s.n 31 p, le-leb s.walk s.n q, h)

-- a step to one of two
pub either : (b : Bool) (x y : Step) → (b ≡ true → Valid x.session) → (b ≡ false → Valid y.session) → Valid (cond b x y).session
either true x y p q = p refl
either false x y p q = q refl

-- a step is done, or gives back the session that it was handed
abbrev pub Stays : Session → Step → Type 0
Stays s r = (step_number r ≡ done → ⊥) → r.session ≡ s

pub by_test : (t : Bool) (s : Session) (why : Refusal) (r : Step) → Stays s r → Stays s (cond t (refuse_of s why) r)
by_test true s why r h z = refl
by_test false s why r h z = h z

-- a started session that is valid is not closed
pub open_is : (s : Session) → is_valid s ≡ true → s.started ≡ true → is_closed s ≡ false
unfolding is_closed
open_is s p q = rw (p, q)
