-- A confirmed command by one law for all settings: each value is picked by its flag.
use mathlib.Core.Bool.{true, cond}
use mathlib.Core.Path.{◌≡◌, refl, sym, ap, ◌∙◌}
use Rattle.wire.proofs.Choice.{same}
use Rattle.command.specs.declared.Command.{Command}
use Rattle.node.specs.declared.state.Settings.{Settings}
use Rattle.node.specs.Setting.{Setting, Value, make, get_make, make_same}
use Rattle.node.specs.Effect.{Effect, keeps, stores, copies, effect, applied, settings_after}
use Rattle.entry.specs.declared.Known.{Known}
use Rattle.entry.specs.declared.Entry.{Entry}
use Rattle.entry.specs.Entry.{flag, shows, new_flag, new_value, mark_of, confirm_of}
use Rattle.entry.specs.Parts.{blend_of}

picked : {s : Setting} (f : Effect s) (e : Entry) → cond (new_flag true f e.known) (applied f e.settings) (shows e s) ≡ new_value f e
picked {s} keeps e = same (flag e.known s) (shows e s)
picked (stores v) e = refl
picked (copies t f) e = refl

module _ (c : Command) (e : Entry) where
  abbrev value : (s : Setting) → Value s
  value s = new_value (effect c s) e

  abbrev chosen : (s : Setting) → Value s
  chosen s = cond (new_flag true (effect c s) e.known) (applied (effect c s) e.settings) (shows e s)

  all_picked : make chosen ≡ make value
  all_picked = make_same chosen (make value) (λ s. picked (effect c s) e ∙ sym (get_make value s))

  -- as the code gives it
  pub blended : (known : Known) (new s : Settings) → known ≡ mark_of c true e.known → new ≡ settings_after c e.settings
      → s ≡ blend_of known new e.settings → record { settings = s; known = known; kind = e.kind } ≡ confirm_of c e
  blended known new s p q h = rw (h, q, p) (ap (λ (x : Settings). record { settings = x; known = mark_of c true e.known; kind = e.kind }) all_picked)
