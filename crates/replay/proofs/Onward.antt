-- The walk from its first stage on: the loop's own words don't name the kinds, so its invariant goes by that stage.
use Prim.Native.Nat.{ℕ, ◌<◌}
use mathlib.Core.Bool.{true, false}
use mathlib.Core.List.{List}
use mathlib.Core.Path.{◌≡◌}
use Rattle.wire.specs.Promise.{Promise}
use Rattle.wire.specs.declared.kind.Kind.{Kind}
use Rattle.capture.specs.Steps.{bytes_left}
use Rattle.session.specs.declared.Session.{Session}
use Rattle.recording.specs.Recording.{replay_of}
use Rattle.recording.specs.Stages.{advance_of, begin_of, begun_number}
use Rattle.recording.specs.declared.Begun.{Begun}
use Rattle.recording.specs.declared.Moved.{Moved}
use Rattle.recording.specs.declared.Stage.{Stage}
use Rattle.recording.proofs.Stepping.{Coming, comes_start, comes_less, comes_on, comes_end}

-- whatever session the walk comes to from the first stage on, it comes to from this one on
pub record Onward (cs cts rs rts : List ℕ) (f g : Stage) : Type 0 where
  pub on : (t : Session) → Coming cs cts rs rts t f → Coming cs cts rs rts t g

pub onward_start : (cs cts rs rts : List ℕ) (f : Stage) → Onward cs cts rs rts f f
onward_start cs cts rs rts f = record { on = λ t h. h }

module _ (n : ℕ) (ks : List Kind) (cs cts rs rts : List ℕ) (b : Begun) (g : Stage) (m : Moved) (p : Promise begun_number b (begin_of n ks cs cts rs rts)) (i : Onward cs cts rs rts b.stage g) (e : m ≡ advance_of cs cts rs rts g) where
  coming : Coming cs cts rs rts (replay_of n ks cs cts rs rts).session g
  coming = i.on _ (comes_start n ks cs cts rs rts b p)

  pub onward_less : m.stage.over ≡ false → bytes_left cts rts m.stage.at < bytes_left cts rts g.at
  onward_less = comes_less cs cts rs rts _ g m coming e

  pub onward_end : m.stage.over ≡ true → m.stage.session ≡ (replay_of n ks cs cts rs rts).session
  onward_end = comes_end cs cts rs rts _ g m coming e

pub onward_on : (cs cts rs rts : List ℕ) (f g : Stage) (m : Moved) → Onward cs cts rs rts f g → m ≡ advance_of cs cts rs rts g → m.stage.over ≡ false
    → Onward cs cts rs rts f m.stage
onward_on cs cts rs rts f g m i e o = record { on = λ t h. comes_on cs cts rs rts t g m (i.on t h) e o }
