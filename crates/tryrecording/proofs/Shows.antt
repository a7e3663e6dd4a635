-- What is written, part by part; a law for each exit of the code.
use Prim.Native.Nat.{ℕ, ◌+◌, ◌-◌, ◌/◌, ◌%◌, ◌≤◌, ◌<◌}
use mathlib.Core.List.{List, [], ◌∷◌}
use mathlib.Core.Path.{◌≡◌}
use native.Mathlib.Omega.{arith}
use lib.ListN.{length, take, length-take}
use Rattle.wire.specs.Numbers.{done}
use Rattle.session.specs.declared.Session.{Session}
use Rattle.calls.specs.declared.Call.{Call}
use Rattle.capture.specs.declared.Cursor.{Cursor}
use Rattle.recording.specs.declared.Event.{Event}
use Rattle.recording.specs.declared.Event.TheVariants.{Sent, Foreign, Answered, Unawaited}
use Rattle.recording.specs.declared.Event.TheVariants as event
use Rattle.fields.specs.declared.answer.Answer.{Answer}
use Rattle.fields.specs.Answer.{fields_nothing}
use Rattle.state.specs.State.{put_state}
use Rattle.tryrecording.specs.Writing.{WroteEach}
use Rattle.tryrecording.specs.Trying.{step_bytes, head_bytes, state_bytes}
use Rattle.tryrecording.specs.Moves.{event_bytes}
use Rattle.tryrecording.proofs.Writes.{each_none}

module _ (out left : List ℕ) (r : ℕ) where
  pub step_put : (at line start long : ℕ) → WroteEach (line ∷ start % 256 ∷ start / 256 % 256 ∷ long % 256 ∷ long / 256 % 256 ∷ []) at out r left
      → WroteEach (step_bytes line start long) at out r left
  unfolding step_bytes
  step_put at line start long w = w

  pub head_put : (e count : ℕ) → WroteEach (done ∷ e ∷ count % 256 ∷ count / 256 % 256 ∷ []) 0 out r left → WroteEach (head_bytes e count) 0 out r left
  unfolding head_bytes
  head_put e count w = w

  pub state_put : (s : Session) (n a : Answer) (d : List ℕ) (at : ℕ) → n ≡ fields_nothing → a ≡ put_state n s → d ≡ take a.length a.bytes → WroteEach d at out r left
      → WroteEach (state_bytes s) at out r left
  unfolding state_bytes
  state_put s n a d at e f g w = rw (← e, ← f, ← g) w

  -- ---- by what a packet did

  module _ (e : Event) (from to : Cursor) (at n : ℕ) where
    pub event_sent : (k : Call) → e ≡ Sent k → n ≡ to.command - from.command → WroteEach (step_bytes 0 from.command n) at out r left → WroteEach (event_bytes e from to) at out r left
    event_sent k f g w = rw (f, ← g) w

    pub event_foreign : e ≡ Foreign → n ≡ to.command - from.command → WroteEach (step_bytes 0 from.command n) at out r left → WroteEach (event_bytes e from to) at out r left
    event_foreign f g w = rw (f, ← g) w

    pub event_answered : e ≡ Answered → n ≡ to.reply - from.reply → WroteEach (step_bytes 1 from.reply n) at out r left → WroteEach (event_bytes e from to) at out r left
    event_answered f g w = rw (f, ← g) w

    pub event_unawaited : e ≡ Unawaited → n ≡ to.reply - from.reply → WroteEach (step_bytes 1 from.reply n) at out r left → WroteEach (event_bytes e from to) at out r left
    event_unawaited f g w = rw (f, ← g) w

pub event_none : (e : Event) (from to : Cursor) (out : List ℕ) (at : ℕ) → e ≡ event.End → WroteEach (event_bytes e from to) at out at out
event_none e from to out at f = rw f (each_none out at)

-- the bytes of an answer are few
pub state_fits : (b d : List ℕ) (at n : ℕ) → d ≡ take n b → length b ≡ 2211 → at ≤ 0x8005 → at + length d < 0x100000
state_fits b d at n e l h = rw e (omega (arith, length-take n b))
