-- One entry and the node that it is about: an exchange keeps what is known true, for all six settings at once.
use mathlib.Core.Bool.{Bool, true, false, cond, true≢false, false≢true}
use mathlib.Core.Path.{◌≡◌, refl, sym, ap, ◌∙◌}
use Rattle.command.specs.declared.Command.{Command}
use Rattle.status.specs.declared.Answer.{Answer}
use Rattle.status.specs.declared.Answer.TheVariants.{Clear, Marked, Silent}
use Rattle.node.specs.declared.state.Settings.{Settings}
use Rattle.node.specs.Setting.{Setting, get}
use Rattle.node.specs.Effect.{Effect, keeps, stores, copies, effect, applied, settings_after, get_after}
use Rattle.entry.specs.declared.Known.{Known}
use Rattle.entry.specs.declared.Entry.{Entry}
use Rattle.entry.specs.declared.Reach.{Reach}
use Rattle.entry.specs.declared.Reach.TheVariants.{Misses, Hits, May}
use Rattle.entry.specs.Entry.{flag, knows, shows, new_flag, new_value, confirm_of, doubt_of, note_of}
use Rattle.entry.proofs.Entries.{knows_confirmed, shows_confirmed, knows_doubted}

-- "each setting the host calls known is what the node holds"
abbrev pub Sound : Entry → Settings → Type 0
Sound e x = (s : Setting) → knows e s ≡ true → shows e s ≡ get x s

-- what the host takes for certain of a command's way, against what happened: only whom it misses. did: the command came whole to the node, which acted on it
abbrev pub Fits : Reach → Bool → Type 0
Fits Misses did = did ≡ false
Fits Hits did = Unit {0}
Fits May did = Unit {0}

-- what an answer tells: a clear one of a node that the host counts as reached, that it acted; a marked one, that no node did
abbrev pub Told : Answer → Reach → Bool → Type 0
Told Clear Misses did = Unit {0}
Told Clear Hits did = did ≡ true
Told Clear May did = Unit {0}
Told Marked r did = did ≡ false
Told Silent r did = Unit {0}

pub told : (a : Answer) (r : Reach) (did : Bool) → (a ≡ Marked → did ≡ false) → (a ≡ Clear → r ≡ Hits → did ≡ true) → Told a r did
told Clear Misses did m c = tt
told Clear Hits did m c = c refl refl
told Clear May did m c = tt
told Marked r did m c = m refl
told Silent r did m c = tt

-- whoever acts must pass the test that says whom the command reaches; of a group's members, who pass it, the leader alone counts as hit
pub fits_member : (b leads did : Bool) → (did ≡ true → b ≡ true) → Fits (cond b (cond leads Hits May) Misses) did
fits_member true true did f = tt
fits_member true false did f = tt
fits_member false leads true f = sym (f refl)
fits_member false leads false f = refl

pub fits_test : (b did : Bool) → (did ≡ true → b ≡ true) → Fits (cond b Hits Misses) did
fits_test b did f = fits_member b true did f

-- and whoever is hit has passed it
pub hits_test : (b : Bool) → cond b Hits Misses ≡ Hits → b ≡ true
hits_test true e = refl
hits_test false e = absurd (true≢false (cc e))

known_applied : {s : Setting} (f : Effect s) (e : Entry) (x : Settings) → Sound e x → new_flag true f e.known ≡ true → new_value f e ≡ applied f x
known_applied {s} keeps e x ok k = ok s k
known_applied (stores v) e x ok k = refl
known_applied (copies t f) e x ok k = rw k (ap f (ok t k))

-- confirmed, and the node acted
confirmed_sound : (c : Command) (e : Entry) (x : Settings) → Sound e x → Sound (confirm_of c e) (settings_after c x)
confirmed_sound c e x ok s k =
    shows_confirmed c e s ∙ known_applied (effect c s) e x ok (sym (knows_confirmed c e s) ∙ k) ∙ sym (get_after c x s)

kept : {s : Setting} (f : Effect s) (x : Settings) (k : Known) → new_flag false f k ≡ true → (applied f x ≡ get x s) × (flag k s ≡ true)
kept keeps x k h = (refl, h)
kept (stores v) x k h = absurd (false≢true h)
kept (copies t f) x k h = absurd (false≢true h)

-- put in doubt, whether or not the node acted
doubted_sound : (c : Command) (e : Entry) (x : Settings) (did : Bool) → Sound e x → Sound (doubt_of c e) (cond did (settings_after c x) x)
doubted_sound c e x did ok s k = go did
  where
    same : (applied (effect c s) x ≡ get x s) × (knows e s ≡ true)
    same = kept (effect c s) x e.known (sym (knows_doubted c e s) ∙ k)

    go : (did : Bool) → shows e s ≡ get (cond did (settings_after c x) x) s
    go true = ok s same.1 ∙ sym (get_after c x s ∙ same.0)
    go false = ok s same.1

-- one exchange at one node
pub noted_sound : (a : Answer) (r : Reach) (c : Command) (e : Entry) (x : Settings) (did : Bool)
    → Told a r did → Fits r did → Sound e x → Sound (note_of a r c e) (cond did (settings_after c x) x)
noted_sound Marked r c e x did t f ok = rw t ok
noted_sound Clear Misses c e x did t f ok = rw f ok
noted_sound Clear Hits c e x did t f ok = rw t (confirmed_sound c e x ok)
noted_sound Clear May c e x did t f ok = doubted_sound c e x did ok
noted_sound Silent Misses c e x did t f ok = rw f ok
noted_sound Silent Hits c e x did t f ok = doubted_sound c e x did ok
noted_sound Silent May c e x did t f ok = doubted_sound c e x did ok
