-- A drive's own commands, whatever their values: a law for each exit of the code; and with values of their ranges they are what a drive reads.
use Prim.Native.Nat.{ℕ, ◌+◌, ◌*◌, ◌/◌, ◌%◌}
use Rattle.std.specs.Prelude.{Option, Some, None}
use mathlib.Core.Bool.{Bool, true, false, cond}
use mathlib.Core.List.{List}
use mathlib.Core.Path.{◌≡◌, refl}
use lib.Dec.{eqb}
use lib.ListN.{length, get_or}
use borrow.Author.Tests.{eq-eqb, ne_eqb}
use Rattle.command.specs.Control.{is_stop_here}
use Rattle.command.specs.declared.Motion.{Motion}
use Rattle.command.specs.declared.Gains.{Gains}
use Rattle.command.specs.declared.Command.{Command}
use Rattle.command.specs.declared.Command.TheVariants.{ResetPosition, LoadTrajectory, StartMotion, SetGain, StopMotor}
use Rattle.codec.specs.Reading.{long_if, load_count, motion_of, gains_of, stop_count, stop_of, if_counted, ranged, drive_rows}
use Rattle.codec.specs.Own.{own_load, own_gain, own_stop, drive_own}

module _ (d : List ℕ) where
  pub plain_miscounted : (c : Command) → (length d ≡ 0 → ⊥) → None ≡ if_counted (length d) 0 (Some c)
  plain_miscounted c h = rw (ne_eqb (length d) 0 h)

  pub plain_counted : (c : Command) → length d ≡ 0 → Some c ≡ if_counted (length d) 0 (Some c)
  plain_counted c h = rw (eq-eqb (length d) 0 h)

  module _ (c x : ℕ) (ec : c ≡ get_or d 0 0) (ex : x ≡ load_count c) where
    pub own_load_miscounted : (length d ≡ x → ⊥) → None ≡ own_load d
    unfolding own_load
    own_load_miscounted h = rw (← ec, ← ex, ne_eqb (length d) x h)

    pub own_load_counted : (m : Motion) → length d ≡ x → m ≡ motion_of d → Some (LoadTrajectory m) ≡ own_load d
    unfolding own_load
    own_load_counted m h em = rw (← em, ← ec, ← ex, eq-eqb (length d) x h)

  pub own_gain_miscounted : (length d ≡ 14 → ⊥) → None ≡ own_gain d
  unfolding own_gain
  own_gain_miscounted h = rw (ne_eqb (length d) 14 h)

  pub own_tenth : (z : ℕ) → length d ≡ 14 → z ≡ get_or d 9 0 → (z ≡ 0 → ⊥) → None ≡ own_gain d
  unfolding own_gain
  own_tenth z h e n = rw (eq-eqb (length d) 14 h, ← e, ne_eqb z 0 n)

  pub own_gain_counted : (z : ℕ) (g : Gains) → length d ≡ 14 → z ≡ get_or d 9 0 → z ≡ 0 → g ≡ gains_of d → Some (SetGain g) ≡ own_gain d
  unfolding own_gain
  own_gain_counted z g h e n f = rw (eq-eqb (length d) 14 h, ← e, eq-eqb z 0 n, ← f)

  module _ (b : ℕ) (e : b ≡ get_or d 0 0) where
    pub own_stop_miscounted : (length d ≡ 1 + b / 16 % 2 * 4 → ⊥) → None ≡ own_stop d
    unfolding own_stop
    own_stop_miscounted h = rw (← e, ne_eqb (length d) (1 + b / 16 % 2 * 4) h)

    pub own_stop_counted : (h : Bool) (p : ℕ) → length d ≡ 1 + b / 16 % 2 * 4 → h ≡ is_stop_here b → p ≡ long_if h d 1
        → Some (StopMotor (record { position = p; byte = b })) ≡ own_stop d
    unfolding own_stop stop_of
    own_stop_counted h p l i j = rw (← e, eq-eqb (length d) (1 + b / 16 % 2 * 4) l, j, i)

  module _ (k : ℕ) (r : Option Command) where
    pub own_reset : k ≡ 0x0 → r ≡ if_counted (length d) 0 (Some ResetPosition) → r ≡ drive_own k d
    unfolding drive_own
    own_reset h e = rw h e

    pub own_loaded : k ≡ 0x4 → r ≡ own_load d → r ≡ drive_own k d
    unfolding drive_own
    own_loaded h e = rw h e

    pub own_started : k ≡ 0x5 → r ≡ if_counted (length d) 0 (Some StartMotion) → r ≡ drive_own k d
    unfolding drive_own
    own_started h e = rw h e

    pub own_gained : k ≡ 0x6 → r ≡ own_gain d → r ≡ drive_own k d
    unfolding drive_own
    own_gained h e = rw h e

    pub own_stopped : k ≡ 0x7 → r ≡ own_stop d → r ≡ drive_own k d
    unfolding drive_own
    own_stopped h e = rw h e

  pub own_none : (k : ℕ) → (k ≡ 0x0 → ⊥) → (k ≡ 0x4 → ⊥) → (k ≡ 0x5 → ⊥) → (k ≡ 0x6 → ⊥) → (k ≡ 0x7 → ⊥) → None ≡ drive_own k d
  unfolding drive_own
  own_none k a b c e f = rw (ne_eqb k 0x0 a, ne_eqb k 0x4 b, ne_eqb k 0x5 c, ne_eqb k 0x6 e, ne_eqb k 0x7 f)

-- what is read, if its values are of their ranges
unfoldable pub if_ranged : Option Command → Option Command
if_ranged (Some c) = ranged c
if_ranged None = None

other : if_ranged None ≡ None
unfolding if_ranged
other = refl

known : (c : Command) → if_ranged (Some c) ≡ ranged c
unfolding if_ranged
known c = refl

either : (t : Bool) (x y : Option Command) {p q : Option Command} → if_ranged x ≡ p → if_ranged y ≡ q → if_ranged (cond t x y) ≡ cond t p q
either true x y e f = e
either false x y e f = f

-- a drive reads of them those whose values are of their ranges
pub own_ranged : (k : ℕ) (d : List ℕ) → if_ranged (drive_own k d) ≡ drive_rows k (length d) d
unfolding drive_own own_load own_gain own_stop drive_rows
own_ranged k d =
    either (eqb k 0x0) _ _ (either (eqb (length d) 0) _ _ (known ResetPosition) other)
    (either (eqb k 0x4) _ _ (either (eqb (length d) (load_count (get_or d 0 0))) _ _ (known (LoadTrajectory (motion_of d))) other)
    (either (eqb k 0x5) _ _ (either (eqb (length d) 0) _ _ (known StartMotion) other)
    (either (eqb k 0x6) _ _ (either (eqb (length d) 14) _ _ (either (eqb (get_or d 9 0) 0) _ _ (known (SetGain (gains_of d))) other) other)
    (either (eqb k 0x7) _ _ (either (eqb (length d) (stop_count (get_or d 0 0))) _ _ (known (StopMotor (stop_of d))) other) other))))
