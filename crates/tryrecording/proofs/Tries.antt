-- What the line is answered; a law for each exit of the code.
use Prim.Native.Nat.{ℕ, ◌-◌, ◌≤◌}
use mathlib.Core.Bool.{Bool, true, false, ◌&&◌}
use mathlib.Core.List.{List, [], ◌∷◌}
use mathlib.Core.Path.{◌≡◌, refl, sym, ◌∙◌}
use native.Mathlib.Omega.{arith}
use native.Mathlib.Nat.{sub-zero}
use borrow.Author.Tests.{leb-true}
use lib.Dec.{leb, eqb}
use lib.ListN.{length, take, length-take}
use Rattle.wire.specs.Numbers.{number_of}
use Rattle.wire.specs.Promise.{Promise}
use Rattle.wire.specs.declared.kind.Kind.{Kind}
use Rattle.wire.specs.declared.refusal.Refusal.{Refusal}
use Rattle.wire.proofs.Choice.{both}
use Rattle.wire.proofs.Impossible.{impossible}
use Rattle.session.specs.declared.Session.{Session}
use Rattle.std.specs.Prelude.{Result, Ok, Err}
use Rattle.capture.specs.Steps.{outset, left_at}
use Rattle.recording.proofs.Sound.{good_sound}
use Rattle.recording.specs.declared.Begun.{Begun}
use Rattle.recording.specs.declared.Ending.{Ending}
use Rattle.recording.specs.declared.Replayed.{Replayed}
use Rattle.recording.specs.Recording.{recording_check, power_of, follow_of, replay_by, replay_of, replayed_number}
use Rattle.recording.specs.Stages.{begin_of, begun_number}
use Rattle.fields.specs.Field.{fields_byte}
use Rattle.fields.specs.Kind.{are_kinds, read_kinds}
use Rattle.tryrecording.specs.Form.{byte_count, byte_part, time_count, times_in, capture_length, most_captured, is_capture, kind_part, command_part, reply_part, are_captures, is_recording}
use Rattle.tryrecording.specs.Writing.{WroteEach}
use Rattle.tryrecording.specs.Trying.{steps_of, end_byte, joined_steps, head_bytes, state_bytes, walk_bytes, replay_bytes, captured_bytes, recording_bytes, tryrecording_replay}
use Rattle.tryrecording.specs.Moves.{steps_from, Walkable, IsGood}
use Rattle.tryrecording.proofs.Writes.{each_then}

-- ---- the walk of a recording that isn't refused

module _ (n : ℕ) (ks : List Kind) (cs cts rs rts : List ℕ) (b : Begun) (g : IsGood n ks cs cts rs rts) (p : Promise begun_number b (begin_of n ks cs cts rs rts)) where
  begun_at : b.stage ≡ record { at = outset; over = false; session = power_of n ks }
  unfolding begin_of
  begun_at = rw (p.answer, g.good)

  walk_from : (at : ℕ) → at ≤ 4 → Walkable cs cts rs rts b.stage at
  walk_from at h =
      let s = good_sound n ks cs cts rs rts g.good in
      rw begun_at (record { command = s.command_number; reply = s.reply_number; on = refl; small = omega (arith, g.command, g.reply) })

  pub walk_first : Walkable cs cts rs rts b.stage 0
  walk_first = walk_from 0 (omega arith)

  pub walk_behind : (e k at : ℕ) (out left : List ℕ) → WroteEach (head_bytes e k) 0 out at left → Walkable cs cts rs rts b.stage at
  unfolding head_bytes
  walk_behind e k at out left w = walk_from at (omega (arith, w.behind))

  pub walked : (s : Session) (e k a a₂ r : ℕ) (out o₁ o₂ left : List ℕ) → k ≡ length (steps_from cs cts rs rts b.stage) → WroteEach (head_bytes e k) 0 out a o₁
      → WroteEach (joined_steps (steps_from cs cts rs rts b.stage)) a o₁ a₂ o₂ → WroteEach (state_bytes s) a₂ o₂ r left
      → WroteEach (walk_bytes e (steps_of (power_of n ks) outset (left_at cs cts rs rts outset)) s) 0 out r left
  unfolding walk_bytes steps_from
  walked s e k a a₂ r out o₁ o₂ left c h w t =
      let i : steps_from cs cts rs rts b.stage ≡ steps_of (power_of n ks) outset (left_at cs cts rs rts outset) = rw begun_at in
      rw (← i, ← c) (each_then (each_then h w) t)

-- ---- by how it ended

ended_good : (c : Result (Unit {0}) Refusal) (x : Replayed) (end : Ending) → (replay_by c x).ending ≡ Ok end → c ≡ Ok tt
ended_good (Ok u) x end e = refl
ended_good (Err why) x end e = impossible cc

module _ (n : ℕ) (ks : List Kind) (cs cts rs rts : List ℕ) (x : Replayed) (p : Promise replayed_number x (replay_of n ks cs cts rs rts)) where
  pub good_ended : (end : Ending) → length cts ≤ 0x400 → length rts ≤ 0x400 → x.ending ≡ Ok end → IsGood n ks cs cts rs rts
  unfolding replay_of
  good_ended end h k e = record {
    good = ended_good (recording_check n ks cs cts rs rts) (follow_of (power_of n ks) (left_at cs cts rs rts outset)) end (rw p.answer at e);
    command = h;
    reply = k;
  }

  module _ (out left : List ℕ) (r : ℕ) where
    pub shows_ended : (end : Ending) (e : ℕ) → x.ending ≡ Ok end → e ≡ end_byte end
        → WroteEach (walk_bytes e (steps_of (power_of n ks) outset (left_at cs cts rs rts outset)) x.session) 0 out r left → WroteEach (replay_bytes n ks cs cts rs rts) 0 out r left
    unfolding replay_bytes
    shows_ended end e f g w = rw (← p.answer, f, ← g) w

    pub shows_refused : (why : Refusal) (k : ℕ) → x.ending ≡ Err why → k ≡ number_of why → WroteEach (k ∷ []) 0 out r left → WroteEach (replay_bytes n ks cs cts rs rts) 0 out r left
    unfolding replay_bytes
    shows_refused why k e f w = rw (← p.answer, e, ← f) w

-- ---- a line of the form

captured_few : (s : List ℕ) → is_capture s ≡ true → time_count s ≤ most_captured
unfolding is_capture
captured_few s e =
    let few : Bool = leb (time_count s) most_captured in
    let whole : Bool = leb (capture_length s) (length s) in
    leb-true (time_count s) most_captured (both few whole (both (leb (byte_count s) most_captured) (few && whole) e).1).0

module _ (s : List ℕ) (h : is_recording s ≡ true) where
  abbrev replies : Bool
  replies = is_capture (reply_part s) && eqb (length (reply_part s)) (capture_length (reply_part s))

  captures : (is_capture (command_part s) ≡ true) × (replies ≡ true)
  unfolding is_recording are_captures
  captures = both (is_capture (command_part s)) replies (both (are_kinds (kind_part s)) (are_captures s) h).1

  pub command_few : (c : List ℕ) → c ≡ command_part s → time_count c ≤ most_captured
  command_few c e = rw e (captured_few (command_part s) captures.0)

  pub reply_few : (c : List ℕ) → c ≡ reply_part s → time_count c ≤ most_captured
  reply_few c e = rw e (captured_few (reply_part s) (both (is_capture (reply_part s)) (eqb (length (reply_part s)) (capture_length (reply_part s))) captures.1).0)

  pub command_fits : (c ts : List ℕ) (t : ℕ) → c ≡ command_part s → t ≡ time_count c → length ts ≡ 0x400 → t ≤ length ts
  command_fits c ts t e f l = let k = command_few c e in omega arith

  pub reply_fits : (c ts : List ℕ) (t : ℕ) → c ≡ reply_part s → t ≡ time_count c → length ts ≡ 0x400 → t ≤ length ts
  reply_fits c ts t e f l = let k = reply_few c e in omega arith

pub part_few : (ts : List ℕ) (n : ℕ) → length ts ≡ 0x400 → length (take n ts) ≤ 0x400
part_few ts n l = omega (arith, length-take n ts)

pub shows_captured : (s c d cb db cts dts : List ℕ) (ks : List Kind) (n t u r : ℕ) (out left : List ℕ) → c ≡ command_part s → d ≡ reply_part s → take (time_count c) cts ≡ times_in c
    → take (time_count d) dts ≡ times_in d → t ≡ time_count c → u ≡ time_count d → n ≡ fields_byte s 0 → cb ≡ byte_part c → db ≡ byte_part d
    → WroteEach (replay_bytes n ks cb (take (t - 0) cts) db (take (u - 0) dts)) 0 out r left → WroteEach (captured_bytes ks s) 0 out r left
unfolding captured_bytes
shows_captured s c d cb db cts dts ks n t u r out left ec ed ecs eds et eu en eb fb w =
    rw (← ec, ← ed, ← en, ← eb, ← fb, ← ecs, ← eds, ← et, ← eu, ← (sub-zero t), ← (sub-zero u)) w

pub shows_recording : (s k : List ℕ) (ks : List Kind) (r : ℕ) (out left : List ℕ) → k ≡ kind_part s → ks ≡ read_kinds k → WroteEach (captured_bytes ks s) 0 out r left
    → WroteEach (recording_bytes s) 0 out r left
shows_recording s k ks r out left e f w = rw (← e, ← f) w

-- ---- any line

module _ (s out left : List ℕ) (t : Bool) (r : ℕ) (e : t ≡ is_recording s) where
  pub replays : t ≡ true → WroteEach (recording_bytes s) 0 out r left → WroteEach (tryrecording_replay s) 0 out r left
  unfolding tryrecording_replay
  replays h w = rw (sym e ∙ h) w

  pub replays_not : t ≡ false → WroteEach (0xFF ∷ []) 0 out r left → WroteEach (tryrecording_replay s) 0 out r left
  unfolding tryrecording_replay
  replays_not h w = rw (sym e ∙ h) w

pub is_true : (s : List ℕ) (t : Bool) → t ≡ is_recording s → t ≡ true → is_recording s ≡ true
is_true s t e h = sym e ∙ h
