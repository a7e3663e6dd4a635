-- What the code looks up by the command byte is what the rows say.
use Prim.Native.Nat.{ℕ, ◌+◌, ◌*◌, ◌/◌, ◌%◌, ◌<◌, ◌≤◌}
use Rattle.std.specs.Prelude.{Option, Some, None}
use mathlib.Core.Bool.{Bool, true, false}
use mathlib.Core.List.{List, [], ◌∷◌}
use mathlib.Core.Path.{◌≡◌, refl, sym, ap, ◌∙◌}
use native.Mathlib.Omega.{arith}
use lib.Dec.{eqb}
use lib.ListN.{length, get_or, get_or-eq_default}
use borrow.Author.Tests.{eqb-true, eq-eqb, ne_eqb, lt-ltb, le-ltb, le-leb}
use Rattle.buffer.specs.Wide.{word_of, long_of}
use Rattle.wire.specs.declared.kind.Kind.{Kind}
use Rattle.wire.specs.declared.kind.Kind.TheVariants.{Gate, Drive}
use Rattle.command.specs.Control.{loads_of, is_stop_here}
use Rattle.command.specs.Ranges.{fits_of}
use Rattle.command.specs.declared.Motion.{Motion}
use Rattle.command.specs.declared.Gains.{Gains}
use Rattle.command.specs.declared.Loads.{Loads}
use Rattle.command.specs.declared.Command.{Command}
use Rattle.command.specs.declared.Command.TheVariants.{SetAddress, SetPwm, SynchOutput, SetOutputs, SetSynchOutput, LoadTrajectory, StartMotion, SetGain, StopMotor}
use Rattle.codec.specs.declared.reading.Readings.{Readings}
use Rattle.codec.specs.Reading.{word_at, long_if, byte_if, place_of, velocity_at, acceleration_at, pwm_at, load_count, motion_of, gains_of, stop_count, stop_of, if_counted, ranged, gained, shared_rows, gate_rows, drive_rows, or_else, codec_read, readings_of}
use Rattle.codec.specs.Looking.{alike_of, listed_of, wide_rows}
use Rattle.codec.proofs.Rows.{met, other_not, unknown, above, beyond}

-- ---- values

pub past : (d : List ℕ) (at : ℕ) → length d ≤ at → 0 ≡ get_or d at 0
past d at h = sym (get_or-eq_default d 0 h)

module _ (brought : Bool) (d : List ℕ) (at : ℕ) where
  pub byte_brought : (r : ℕ) → brought ≡ true → r ≡ get_or d at 0 → r ≡ byte_if brought d at
  byte_brought r h e = rw h e

  pub long_brought : (x y z t r : ℕ) → brought ≡ true → x ≡ get_or d at 0 → y ≡ get_or d (at + 1) 0 → z ≡ get_or d (at + 2) 0 → t ≡ get_or d (at + 3) 0 → r ≡ long_of x y z t
      → r ≡ long_if brought d at
  long_brought x y z t r h ex ey ez et e = rw (h, ← ex, ← ey, ← ez, ← et) e

pub motion_read : (d : List ℕ) (c : ℕ) (l : Loads) (p v a w : ℕ) → c ≡ get_or d 0 0 → l ≡ loads_of c → p ≡ long_if l.position d 1 → v ≡ long_if l.velocity d (velocity_at c)
    → a ≡ long_if l.acceleration d (acceleration_at c) → w ≡ byte_if l.pwm d (pwm_at c)
    → record { position = p; velocity = v; acceleration = a; control = c; pwm = w } ≡ motion_of d
unfolding motion_of
motion_read d c l p v a w ec el ep ev ea ew = rw (ep, ev, ea, ew, el, ec)

pub gains_read : (d : List ℕ) (kp kd ki il el ol sr db : ℕ) → kp ≡ word_at d 0 → kd ≡ word_at d 2 → ki ≡ word_at d 4 → il ≡ word_at d 6 → el ≡ word_at d 10
    → ol ≡ get_or d 8 0 → sr ≡ get_or d 12 0 → db ≡ get_or d 13 0
    → record { kp = kp; kd = kd; ki = ki; il = il; el = el; ol = ol; sr = sr; db = db } ≡ gains_of d
unfolding gains_of
gains_read d kp kd ki il el ol sr db a b c e f g h i = rw (a, b, c, e, f, g, h, i)

-- ---- commands of their ranges

pub fitting : (k : Command) (b : Bool) → b ≡ fits_of k → b ≡ true → Some k ≡ ranged k
fitting k b e h = rw (sym e ∙ h)

pub unfitting : (k : Command) (b : Bool) → b ≡ fits_of k → b ≡ false → None ≡ ranged k
unfitting k b e h = rw (sym e ∙ h)

module _ (a g : ℕ) where
  pub off_place : 0x80 ≤ a → None ≡ ranged (SetAddress (place_of a g))
  off_place h = rw (le-ltb a 0x80 h)

  pub on_place_lem : a < 0x80 → Some (SetAddress (place_of a g)) ≡ ranged (SetAddress (place_of a g))
  on_place_lem h = rw (lt-ltb a 0x80 h, le-leb 0x80 (g % 0x80 + 0x80) (omega arith))

-- ---- a drive's commands that have data bytes

pub not_counted : (n m x : ℕ) (r : Option Command) → x ≡ m → (n ≡ x → ⊥) → None ≡ if_counted n m r
not_counted n m x r e h = rw (← e, ne_eqb n x h)

pub counted : (n m x : ℕ) (r q : Option Command) → x ≡ m → n ≡ x → r ≡ q → r ≡ if_counted n m q
counted n m x r q e h p = rw (← e, eq-eqb n x h) p

module _ (n : ℕ) (d : List ℕ) where
  pub load_miscounted : (c x : ℕ) → c ≡ get_or d 0 0 → x ≡ load_count c → (n ≡ x → ⊥) → None ≡ if_counted n (load_count (get_or d 0 0)) (ranged (LoadTrajectory (motion_of d)))
  load_miscounted c x ec ex h = not_counted n (load_count (get_or d 0 0)) x _ (rw ec at ex) h

  pub load_counted : (c x : ℕ) (m : Motion) (r : Option Command) → c ≡ get_or d 0 0 → x ≡ load_count c → n ≡ x → m ≡ motion_of d → r ≡ ranged (LoadTrajectory m)
      → r ≡ if_counted n (load_count (get_or d 0 0)) (ranged (LoadTrajectory (motion_of d)))
  load_counted c x m r ec ex h em er = counted n (load_count (get_or d 0 0)) x r _ (rw ec at ex) h (rw em at er)

  pub gain_miscounted : (n ≡ 14 → ⊥) → None ≡ if_counted n 14 (gained d)
  gain_miscounted h = rw (ne_eqb n 14 h)

  pub tenth_not_zero : (z : ℕ) → n ≡ 14 → z ≡ get_or d 9 0 → (z ≡ 0 → ⊥) → None ≡ if_counted n 14 (gained d)
  tenth_not_zero z e ez h = rw (e, ← ez, ne_eqb z 0 h)

  pub gain_counted : (z : ℕ) (g : Gains) (r : Option Command) → n ≡ 14 → z ≡ get_or d 9 0 → z ≡ 0 → g ≡ gains_of d → r ≡ ranged (SetGain g) → r ≡ if_counted n 14 (gained d)
  gain_counted z g r e ez h eg er = rw (e, sym ez ∙ h) (rw eg at er)

  module _ (b : ℕ) (eb : b ≡ get_or d 0 0) where
    pub stop_miscounted : (n ≡ 1 + b / 16 % 2 * 4 → ⊥) → None ≡ if_counted n (stop_count (get_or d 0 0)) (ranged (StopMotor (stop_of d)))
    stop_miscounted h = not_counted n (stop_count (get_or d 0 0)) (1 + b / 16 % 2 * 4) _ (ap (λ (x : ℕ). stop_count x) eb) h

    pub stop_counted : (h : Bool) (p : ℕ) (r : Option Command) → n ≡ 1 + b / 16 % 2 * 4 → h ≡ is_stop_here b → p ≡ long_if h d 1 → r ≡ ranged (StopMotor (record { position = p; byte = b }))
        → r ≡ if_counted n (stop_count (get_or d 0 0)) (ranged (StopMotor (stop_of d)))
    unfolding stop_of
    stop_counted h p r e eh ep er = counted n (stop_count (get_or d 0 0)) (1 + b / 16 % 2 * 4) r _ (ap (λ (x : ℕ). stop_count x) eb) e (rw (ep, eh, eb) at er)

-- two data bytes are a load whose control byte brings the PWM value alone
clear_two : (c : ℕ) → c % 2 ≡ 0 → c / 2 % 2 ≡ 0 → c % 4 ≡ 0
clear_two c a b = omega arith

clear_three : (c : ℕ) → c % 4 ≡ 0 → c / 4 % 2 ≡ 0 → c % 8 ≡ 0
clear_three c a b = omega arith

then_set : (c : ℕ) → c % 8 ≡ 0 → c / 8 % 2 ≡ 1 → c % 16 ≡ 8
then_set c a b = omega arith

two_alone : (c : ℕ) → 2 ≡ load_count c → c % 16 ≡ 8
two_alone c e = then_set c (clear_three c (clear_two c (omega arith) (omega arith)) (omega arith)) (omega arith)

pub not_two : (d : List ℕ) (c : ℕ) → c ≡ get_or d 0 0 → (c % 16 ≡ 8 → ⊥) → None ≡ if_counted 2 (load_count (get_or d 0 0)) (ranged (LoadTrajectory (motion_of d)))
not_two d c e h = not_counted 2 (load_count (get_or d 0 0)) (load_count c) _ (ap (λ (x : ℕ). load_count x) e) (λ i. h (two_alone c i))

module _ (h : ℕ) (d : List ℕ) (r : Option Command) where
  pub wide_load : h % 16 ≡ 0x4 → r ≡ if_counted (h / 16) (load_count (get_or d 0 0)) (ranged (LoadTrajectory (motion_of d))) → r ≡ wide_rows (h % 16) (h / 16) d
  unfolding wide_rows
  wide_load e q = rw e q

  pub wide_gain : h % 16 ≡ 0x6 → r ≡ if_counted (h / 16) 14 (gained d) → r ≡ wide_rows (h % 16) (h / 16) d
  unfolding wide_rows
  wide_gain e q = rw e q

  pub wide_stop : h % 16 ≡ 0x7 → r ≡ if_counted (h / 16) (stop_count (get_or d 0 0)) (ranged (StopMotor (stop_of d))) → r ≡ wide_rows (h % 16) (h / 16) d
  unfolding wide_rows
  wide_stop e q = rw e q

pub not_wide : (h : ℕ) (d : List ℕ) → (h % 16 ≡ 0x4 → ⊥) → (h % 16 ≡ 0x6 → ⊥) → (h % 16 ≡ 0x7 → ⊥) → None ≡ wide_rows (h % 16) (h / 16) d
unfolding wide_rows
not_wide h d x y z = rw (ne_eqb (h % 16) 0x4 x, ne_eqb (h % 16) 0x6 y, ne_eqb (h % 16) 0x7 z)

-- ---- a command byte's row

or_other : (r : Option Command) → r ≡ or_else r None
or_other (Some c) = refl
or_other None = refl

module _ (h : ℕ) (s d : List ℕ) (r : Readings) where
  pub row : (k : ℕ) (v : Readings) → h ≡ k → r ≡ v → v ≡ listed_of (k % 16) (k / 16) s d → r ≡ listed_of (h % 16) (h / 16) s d
  row k v e q p = rw e (q ∙ p)

module _ (h x y z t : ℕ) (d : List ℕ) where
  pub placed_row : (p : Option Command) (r : Readings) → h ≡ 0x21 → p ≡ ranged (SetAddress (place_of x y)) → r ≡ alike_of p → r ≡ listed_of (h % 16) (h / 16) (x ∷ y ∷ z ∷ t ∷ []) d
  unfolding listed_of shared_rows gate_rows drive_rows
  placed_row p r e q f = f ∙ ap (λ (u : Option Command). alike_of u) (q ∙ or_other (ranged (SetAddress (place_of x y)))) ∙ rw e

  pub pwm_row : (l : Option Command) → h ≡ 0x24 → l ≡ if_counted 2 (load_count (get_or d 0 0)) (ranged (LoadTrajectory (motion_of d)))
      → record { gate = Some (SetPwm (record { first = x; second = y })); drive = l } ≡ listed_of (h % 16) (h / 16) (x ∷ y ∷ z ∷ t ∷ []) d
  unfolding listed_of shared_rows gate_rows drive_rows
  pwm_row l e q = rw (e, q)

  pub start_row : h ≡ 0x05 → record { gate = Some SynchOutput; drive = Some StartMotion } ≡ listed_of (h % 16) (h / 16) (x ∷ y ∷ z ∷ t ∷ []) d
  unfolding listed_of shared_rows gate_rows drive_rows
  start_row e = rw e

  pub outputs_row : (w : ℕ) (r : Readings) → h ≡ 0x26 → w ≡ word_of x y → r ≡ record { gate = Some (SetOutputs w); drive = None } → r ≡ listed_of (h % 16) (h / 16) (x ∷ y ∷ z ∷ t ∷ []) d
  unfolding listed_of shared_rows gate_rows drive_rows
  outputs_row w r e q f = f ∙ rw (e, q)

  pub held_row : (w : ℕ) (r : Readings) → h ≡ 0x47 → w ≡ word_of x y
      → r ≡ record { gate = Some (SetSynchOutput (record { outputs = w; pwm = record { first = z; second = t } })); drive = None }
      → r ≡ listed_of (h % 16) (h / 16) (x ∷ y ∷ z ∷ t ∷ []) d
  unfolding listed_of shared_rows gate_rows drive_rows
  held_row w r e q f = f ∙ rw (e, q, ne_eqb 4 (stop_count (get_or d 0 0)) (λ i. omega arith))

-- a command byte that is in no row but perhaps a drive's with data bytes
module _ (h : ℕ) (s d : List ℕ) (place : h ≡ 0x21 → ⊥) (define : h ≡ 0x12 → ⊥) (ask : h ≡ 0x13 → ⊥) (pace : h ≡ 0x1A → ⊥) (nop : h ≡ 0x0E → ⊥) (reset : h ≡ 0x0F → ⊥)
    (pwm : h ≡ 0x24 → ⊥) (copy : h ≡ 0x05 → ⊥) (outputs : h ≡ 0x26 → ⊥) (held : h ≡ 0x47 → ⊥) (timer : h ≡ 0x18 → ⊥) (capture : h ≡ 0x0C → ⊥) (zero : h ≡ 0x00 → ⊥) where
  unshared : None ≡ shared_rows (h % 16) (h / 16) s
  unfolding shared_rows
  unshared = unknown (shared_rows (h % 16) (h / 16) s) (λ c e.
      met (eqb (h % 16) 0x1) (eqb (h / 16) 2) e (λ a b q. place (omega (arith, eqb-true (h % 16) 0x1 a, eqb-true (h / 16) 2 b)))
      (λ e. met (eqb (h % 16) 0x2) (eqb (h / 16) 1) e (λ a b q. define (omega (arith, eqb-true (h % 16) 0x2 a, eqb-true (h / 16) 1 b)))
      (λ e. met (eqb (h % 16) 0x3) (eqb (h / 16) 1) e (λ a b q. ask (omega (arith, eqb-true (h % 16) 0x3 a, eqb-true (h / 16) 1 b)))
      (λ e. met (eqb (h % 16) 0xA) (eqb (h / 16) 1) e (λ a b q. pace (omega (arith, eqb-true (h % 16) 0xA a, eqb-true (h / 16) 1 b)))
      (λ e. met (eqb (h % 16) 0xE) (eqb (h / 16) 0) e (λ a b q. nop (omega (arith, eqb-true (h % 16) 0xE a, eqb-true (h / 16) 0 b)))
      (λ e. met (eqb (h % 16) 0xF) (eqb (h / 16) 0) e (λ a b q. reset (omega (arith, eqb-true (h % 16) 0xF a, eqb-true (h / 16) 0 b)))
      (λ e. other_not e)))))))

  ungated : None ≡ gate_rows (h % 16) (h / 16) s
  unfolding gate_rows
  ungated = unknown (gate_rows (h % 16) (h / 16) s) (λ c e.
      met (eqb (h % 16) 0x4) (eqb (h / 16) 2) e (λ a b q. pwm (omega (arith, eqb-true (h % 16) 0x4 a, eqb-true (h / 16) 2 b)))
      (λ e. met (eqb (h % 16) 0x5) (eqb (h / 16) 0) e (λ a b q. copy (omega (arith, eqb-true (h % 16) 0x5 a, eqb-true (h / 16) 0 b)))
      (λ e. met (eqb (h % 16) 0x6) (eqb (h / 16) 2) e (λ a b q. outputs (omega (arith, eqb-true (h % 16) 0x6 a, eqb-true (h / 16) 2 b)))
      (λ e. met (eqb (h % 16) 0x7) (eqb (h / 16) 4) e (λ a b q. held (omega (arith, eqb-true (h % 16) 0x7 a, eqb-true (h / 16) 4 b)))
      (λ e. met (eqb (h % 16) 0x8) (eqb (h / 16) 1) e (λ a b q. timer (omega (arith, eqb-true (h % 16) 0x8 a, eqb-true (h / 16) 1 b)))
      (λ e. met (eqb (h % 16) 0xC) (eqb (h / 16) 0) e (λ a b q. capture (omega (arith, eqb-true (h % 16) 0xC a, eqb-true (h / 16) 0 b)))
      (λ e. other_not e)))))))

  driven : wide_rows (h % 16) (h / 16) d ≡ drive_rows (h % 16) (h / 16) d
  unfolding wide_rows drive_rows
  driven = go (eqb (h % 16) 0x0) refl (eqb (h % 16) 0x5) refl
    where
      go : (t : Bool) → eqb (h % 16) 0x0 ≡ t → (u : Bool) → eqb (h % 16) 0x5 ≡ u → wide_rows (h % 16) (h / 16) d ≡ drive_rows (h % 16) (h / 16) d
      go true e u f = let k = eqb-true (h % 16) 0x0 e in rw (k, ne_eqb (h / 16) 0 (λ i. zero (omega arith)))
      go false e true f = let k = eqb-true (h % 16) 0x5 f in rw (k, ne_eqb (h / 16) 0 (λ i. copy (omega arith)))
      go false e false f = rw (e, f)

  pub unlisted : (w : Option Command) (r : Readings) → w ≡ wide_rows (h % 16) (h / 16) d → r ≡ record { gate = None; drive = w } → r ≡ listed_of (h % 16) (h / 16) s d
  unfolding listed_of
  unlisted w r ew er = er ∙ rw (← unshared, ← ungated, ew, driven)

-- ---- the command byte holds the number and the count

module _ (k : ℕ) (d : List ℕ) (r : Readings) where
  pub no_number : 15 < k → r ≡ alike_of None → r ≡ readings_of k d
  no_number h e = e ∙ (λ i. record { gate = above Gate k d h i; drive = above Drive k d h i })

  pub no_count : 15 < length d → r ≡ alike_of None → r ≡ readings_of k d
  no_count h e = e ∙ (λ i. record { gate = beyond Gate k d h i; drive = beyond Drive k d h i })

  pub looked_up : (x y z t : ℕ) → k ≤ 15 → x ≡ get_or d 0 0 → y ≡ get_or d 1 0 → z ≡ get_or d 2 0 → t ≡ get_or d 3 0
      → r ≡ listed_of ((k + length d * 16) % 16) ((k + length d * 16) / 16) (x ∷ y ∷ z ∷ t ∷ []) d → r ≡ readings_of k d
  unfolding codec_read listed_of shared_rows gate_rows
  looked_up x y z t h one two three four e =
      let number : (k + length d * 16) % 16 ≡ k = omega arith in
      let count : (k + length d * 16) / 16 ≡ length d = omega arith in
      rw (number, count, one, two, three, four) at e

-- one kind's reading of both
module _ (kind : Kind) (k : ℕ) (d : List ℕ) (r : Readings) (e : r ≡ readings_of k d) where
  pub gates_own : kind ≡ Gate → r.gate ≡ codec_read kind k d
  gates_own h = rw h (ap (λ (x : Readings). x.gate) e)

  pub drives_own : kind ≡ Drive → r.drive ≡ codec_read kind k d
  drives_own h = rw h (ap (λ (x : Readings). x.drive) e)
