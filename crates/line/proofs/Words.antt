-- The two ways to say that a setting is in doubt, computed and in the demand's words, are the same.
use Prim.Native.Nat.{ℕ}
use mathlib.Core.Bool.{Bool, true, false, not, ◌&&◌, ◌||◌, and-false, or-true, false≢true}
use mathlib.Core.List.{List, [], ◌∷◌}
use mathlib.Core.Logic.{◌⊎◌, inl, inr, ◌↔◌}
use mathlib.Core.Path.{◌≡◌, refl}
use Rattle.wire.specs.declared.address.Address.{Address}
use Rattle.wire.specs.declared.address.Address.TheVariants as address
use Rattle.command.specs.declared.Place.{Place}
use Rattle.node.specs.Setting.{Setting, place}
use Rattle.node.specs.Effect.{effect}
use Rattle.line.specs.History.{Counted, answers, confirmed_at, group_lost, last_place, copied, in_doubt, could, Last, this, older, Unsure, Doubtful}

-- a node whose place is in doubt isn't known to lead, so a group command is unconfirmed there
lost_unconfirmed : (c : Bool) (to : Address) (lost : Bool) (p : Place) → group_lost to lost ≡ true → (c && answers to lost p) ≡ false
lost_unconfirmed c (address.Individual i) lost p e = absurd (false≢true e)
lost_unconfirmed c (address.Group g) true p e = and-false c
lost_unconfirmed c (address.Group g) false p e = absurd (false≢true e)

-- one of the three reasons, of which the second brings the first
one_of : (c g h : Bool) → (not c || h) ≡ true → (c ≡ false) ⊎ (g ≡ true) ⊎ (h ≡ true)
one_of false g h o = inl refl
one_of true g h o = inr (inr o)

from_one : (c g h : Bool) → (g ≡ true → c ≡ false) → (c ≡ false) ⊎ (g ≡ true) ⊎ (h ≡ true) → (not c || h) ≡ true
from_one c g h f (inl p) = rw p refl
from_one c g h f (inr (inl p)) = rw (f p) refl
from_one c g h f (inr (inr p)) = rw p (or-true (not c))

doubtful : (past : List Counted) (k : ℕ) (s : Setting) → in_doubt past k s ≡ true → Doubtful past k s
doubtful [] k s e = absurd (false≢true e)
doubtful (x ∷ past) k s e = go (could x past k s) refl (doubtful past k s)
  where
    go : (b : Bool) → could x past k s ≡ b → (in_doubt past k s ≡ true → Doubtful past k s) → Doubtful (x ∷ past) k s
    go true c f = record {
      command = x;
      before = past;
      last = this c;
      unsure = one_of (confirmed_at x (in_doubt past k place) (last_place past k)) (group_lost x.to (in_doubt past k place))
          (copied (effect x.command s) (in_doubt past k)) (rw c at e);
    }
    go false c f =
        let o = f (rw c at e) in
        record { command = o.command; before = o.before; last = older c o.last; unsure = o.unsure }

last_in_doubt : {k : ℕ} {s : Setting} {past : List Counted} {x : Counted} {before : List Counted} → Last k s past x before
    → Unsure x before k s → in_doubt past k s ≡ true
last_in_doubt {k = k} {s = s} (this {x = x} {before = before} c) u =
    let lost : Bool = in_doubt before k place in
    let p : Place = last_place before k in
    rw c (from_one (confirmed_at x lost p) (group_lost x.to lost) (copied (effect x.command s) (in_doubt before k)) (lost_unconfirmed x.clear x.to lost p) u)
last_in_doubt (older c l) u = rw c (last_in_doubt l u)

pub same_words : (past : List Counted) (k : ℕ) (s : Setting) → (in_doubt past k s ≡ true) ↔ Doubtful past k s
same_words past k s = (doubtful past k s, λ d. last_in_doubt d.last d.unsure)
