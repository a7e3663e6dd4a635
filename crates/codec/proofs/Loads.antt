-- A drive's wide commands come back from their data bytes, and their data bytes from them: value by value, never case by case of a control byte.
use Prim.Native.Nat.{ℕ, ◌+◌, ◌*◌, ◌/◌, ◌%◌, ◌≤◌}
use mathlib.Core.Bool.{Bool, true, false, ◌&&◌}
use mathlib.Core.List.{List, [], ◌∷◌, ◌++◌, append_assoc, append-nil}
use mathlib.Core.Path.{◌≡◌, refl, sym, ap, ◌∙◌}
use native.Mathlib.Omega.{arith}
use lib.Dec.{ltb, leb}
use lib.ListN.{length, get_or, drop, length-append}
use borrow.Author.Tests.{eqb-true}
use Rattle.wire.proofs.Choice.{both}
use Rattle.buffer.specs.Change.{AllBytes}
use Rattle.command.specs.Control.{loads_of, is_stop_here}
use Rattle.command.specs.Ranges.{value_fits, position_fits, motion_fits, stop_fits}
use Rattle.command.specs.declared.Gains.{Gains}
use Rattle.command.specs.declared.Motion.{Motion}
use Rattle.command.specs.declared.Stop.{Stop}
use Rattle.codec.specs.Reading.{velocity_at, acceleration_at, pwm_at, load_count, motion_of, gains_of, stop_count, stop_of}
use Rattle.codec.specs.Build.{long_bytes, bytes_if, load_data, gain_data, stop_data}
use Rattle.codec.proofs.Values.{word_back, long_comes, byte_comes, byte_from, word_from, long_if_from, long_if_ends, byte_if_ends, four_by, one_by, long_count, byte_count_lem}

-- a value that isn't brought is 0
not_brought : (b f : Bool) (v : ℕ) → value_fits b f v ≡ true → b ≡ false → v ≡ 0
not_brought b f v h e = eqb-true v 0 (rw e at h)

-- ---- Load Trajectory

-- its four parts, behind the control byte
module _ (m : Motion) where
  abbrev position_bytes : List ℕ
  position_bytes = bytes_if (loads_of m.control).position (long_bytes m.position)

  abbrev velocity_bytes : List ℕ
  velocity_bytes = bytes_if (loads_of m.control).velocity (long_bytes m.velocity)

  abbrev acceleration_bytes : List ℕ
  acceleration_bytes = bytes_if (loads_of m.control).acceleration (long_bytes m.acceleration)

  abbrev power_bytes : List ℕ
  power_bytes = bytes_if (loads_of m.control).pwm (m.pwm ∷ [])

  p_count : length position_bytes ≡ m.control % 2 * 4
  p_count = long_count (loads_of m.control).position m.position ∙ sym (four_by m.control)

  v_count : length velocity_bytes ≡ m.control / 2 % 2 * 4
  v_count = long_count (loads_of m.control).velocity m.velocity ∙ sym (four_by (m.control / 2))

  a_count : length acceleration_bytes ≡ m.control / 4 % 2 * 4
  a_count = long_count (loads_of m.control).acceleration m.acceleration ∙ sym (four_by (m.control / 4))

  w_count : length power_bytes ≡ m.control / 8 % 2
  w_count = byte_count_lem (loads_of m.control).pwm m.pwm ∙ sym (one_by (m.control / 8))

  -- where each part stands
  velocity_at_lem : velocity_at m.control ≡ length (m.control ∷ position_bytes)
  velocity_at_lem = omega (arith, p_count)

  acceleration_at_lem : acceleration_at m.control ≡ length (m.control ∷ (position_bytes ++ velocity_bytes))
  acceleration_at_lem = omega (arith, p_count, v_count, length-append position_bytes velocity_bytes)

  pwm_at_lem : pwm_at m.control ≡ length (m.control ∷ (position_bytes ++ (velocity_bytes ++ acceleration_bytes)))
  pwm_at_lem = omega (arith, p_count, v_count, a_count, length-append position_bytes (velocity_bytes ++ acceleration_bytes), length-append velocity_bytes acceleration_bytes)

  pub load_count_lem : load_count m.control ≡ length (load_data m)
  unfolding load_data
  load_count_lem = omega (arith, p_count, v_count, a_count, w_count, length-append position_bytes (velocity_bytes ++ (acceleration_bytes ++ power_bytes)), length-append velocity_bytes (acceleration_bytes ++ power_bytes), length-append acceleration_bytes power_bytes)

  pub load_first : m.control ≡ get_or (load_data m) 0 0
  unfolding load_data
  load_first = refl

  pub load_few : length (load_data m) ≤ 14
  load_few = omega (arith, load_count_lem)

  -- from a load to its bytes and back
  pub motion_back : motion_fits m ≡ true → motion_of (load_data m) ≡ m
  unfolding motion_of load_data
  motion_back h =
      let fp = value_fits (loads_of m.control).position (position_fits m.position) m.position in
      let fv = value_fits (loads_of m.control).velocity (leb m.velocity 0x7FFFFFFF) m.velocity in
      let fa = value_fits (loads_of m.control).acceleration (leb m.acceleration 0x7FFFFFFF) m.acceleration in
      let fw = value_fits (loads_of m.control).pwm true m.pwm in
      let f = both (fp && fv && fa) fw h in
      let g = both (fp && fv) fa f.0 in
      let k = both fp fv g.0 in
      let l = m.control ∷ (position_bytes ++ (velocity_bytes ++ (acceleration_bytes ++ power_bytes))) in
      λ i. record {
        position = long_comes l (m.control ∷ []) (velocity_bytes ++ (acceleration_bytes ++ power_bytes)) m.position 1 refl (loads_of m.control).position (not_brought (loads_of m.control).position (position_fits m.position) m.position k.0) refl i;
        velocity = long_comes l (m.control ∷ position_bytes) (acceleration_bytes ++ power_bytes) m.velocity (velocity_at m.control) velocity_at_lem (loads_of m.control).velocity (not_brought (loads_of m.control).velocity (leb m.velocity 0x7FFFFFFF) m.velocity k.1) refl i;
        acceleration = long_comes l (m.control ∷ (position_bytes ++ velocity_bytes)) power_bytes m.acceleration (acceleration_at m.control) acceleration_at_lem (loads_of m.control).acceleration (not_brought (loads_of m.control).acceleration (leb m.acceleration 0x7FFFFFFF) m.acceleration g.1)
            (ap (λ (k : List ℕ). m.control ∷ k) (sym (append_assoc position_bytes velocity_bytes (acceleration_bytes ++ power_bytes)))) i;
        control = m.control;
        pwm = byte_comes l (m.control ∷ (position_bytes ++ (velocity_bytes ++ acceleration_bytes))) [] m.pwm (pwm_at m.control) pwm_at_lem (loads_of m.control).pwm (not_brought (loads_of m.control).pwm true m.pwm f.1)
            (ap (λ (k : List ℕ). m.control ∷ k) (rw (append-nil power_bytes, append_assoc position_bytes (velocity_bytes ++ acceleration_bytes) power_bytes, append_assoc velocity_bytes acceleration_bytes power_bytes))) i;
      }

pub load_read : (d : List ℕ) → load_count (get_or d 0 0) ≡ length (load_data (motion_of d))
unfolding motion_of
load_read d = load_count_lem (motion_of d)

-- and from bytes to a load and back
pub loaded : (d : List ℕ) → length d ≡ load_count (get_or d 0 0) → AllBytes d → load_data (motion_of d) ≡ d
unfolding load_data motion_of
loaded d n h =
    let c = get_or d 0 0 in
    let p = four_by c in
    let v = four_by (c / 2) in
    let a = four_by (c / 4) in
    let w = one_by (c / 8) in
    rw (
      byte_if_ends d (loads_of c).pwm (pwm_at c) (omega arith),
      long_if_from d (loads_of c).acceleration (acceleration_at c) (pwm_at c) (omega arith) (omega arith) h,
      long_if_from d (loads_of c).velocity (velocity_at c) (acceleration_at c) (omega arith) (omega arith) h,
      long_if_from d (loads_of c).position 1 (velocity_at c) (omega arith) (omega arith) h,
    )
    (byte_from d 0 1 refl (omega arith))

-- ---- Set Gain

pub gain_count : (g : Gains) → 14 ≡ length (gain_data g)
unfolding gain_data
gain_count g = refl

pub gain_tenth : (g : Gains) → get_or (gain_data g) 9 0 ≡ 0
unfolding gain_data
gain_tenth g = refl

pub gains_back : (g : Gains) → gains_of (gain_data g) ≡ g
unfolding gains_of gain_data
gains_back g = rw (word_back g.kp, word_back g.kd, word_back g.ki, word_back g.il, word_back g.el)

pub gained_bytes : (d : List ℕ) → get_or d 9 0 ≡ 0 → length d ≡ 14 → AllBytes d → gain_data (gains_of d) ≡ d
unfolding gains_of gain_data
gained_bytes d z n h =
    let tenth : 0 ∷ drop 10 d ≡ drop 9 d = ap (λ (x : ℕ). x ∷ drop 10 d) (sym z) ∙ byte_from d 9 10 refl (omega arith) in
    let ends : get_or d 13 0 ∷ [] ≡ drop 13 d = byte_if_ends d true 13 n in
    rw (
      ends,
      byte_from d 12 13 refl (omega arith),
      word_from d 10 12 refl (omega arith) h,
      tenth,
      byte_from d 8 9 refl (omega arith),
      word_from d 6 8 refl (omega arith) h,
      word_from d 4 6 refl (omega arith) h,
      word_from d 2 4 refl (omega arith) h,
    )
    (word_from d 0 2 refl (omega arith) h)

-- ---- Stop Motor

pub stop_count_lem : (s : Stop) → stop_count s.byte ≡ length (stop_data s)
unfolding stop_data
stop_count_lem s = let a = long_count (is_stop_here s.byte) s.position in let b = four_by (s.byte / 16) in omega arith

pub stop_first : (s : Stop) → s.byte ≡ get_or (stop_data s) 0 0
unfolding stop_data
stop_first s = refl

pub stop_few : (s : Stop) → length (stop_data s) ≤ 14
stop_few s = omega (arith, stop_count_lem s)

pub stop_read : (d : List ℕ) → stop_count (get_or d 0 0) ≡ length (stop_data (stop_of d))
unfolding stop_of
stop_read d = stop_count_lem (stop_of d)

pub stop_back : (s : Stop) → stop_fits s ≡ true → stop_of (stop_data s) ≡ s
unfolding stop_of stop_data
stop_back s h =
    let f = both (ltb s.byte 0x20 && leb (s.byte / 2 % 2 + s.byte / 4 % 2 + s.byte / 8 % 2 + s.byte / 16 % 2) 1) (value_fits (is_stop_here s.byte) (position_fits s.position) s.position) h in
    λ i. record {
      position = long_comes (stop_data s) (s.byte ∷ []) [] s.position 1 refl (is_stop_here s.byte) (not_brought (is_stop_here s.byte) (position_fits s.position) s.position f.1)
          (ap (λ (k : List ℕ). s.byte ∷ k) (sym (append-nil (bytes_if (is_stop_here s.byte) (long_bytes s.position))))) i;
      byte = s.byte;
    }

pub stopped : (d : List ℕ) → length d ≡ stop_count (get_or d 0 0) → AllBytes d → stop_data (stop_of d) ≡ d
unfolding stop_of stop_data
stopped d n h =
    let a = four_by (get_or d 0 0 / 16) in
    rw (long_if_ends d (is_stop_here (get_or d 0 0)) 1 (omega arith) h) (byte_from d 0 1 refl (omega arith))
