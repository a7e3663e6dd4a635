-- What the functions of the form need; a law for each exit of the code.
use Prim.Native.Nat.{ℕ, ◌+◌, ◌*◌, ◌≤◌, ◌<◌}
use mathlib.Core.Bool.{Bool, true, false, not}
use mathlib.Core.List.{List}
use mathlib.Core.Path.{◌≡◌, refl}
use native.Mathlib.Omega.{arith}
use native.Mathlib.Numerals.{add-one}
use native.Mathlib.Nat.{le_antisymm}
use borrow.Author.Tests.{not-true, not-false, le-leb, lt-leb}
use lib.Dec.{leb, eqb}
use lib.ListN.{length, take, drop, set}
use lib.Seq.{take-suc-set}
use Rattle.fields.specs.Field.{fields_byte, fields_word, fields_long}
use Rattle.fields.specs.Kind.{are_kinds}
use Rattle.tryrecording.specs.Form.{byte_count, byte_part, time_part, time_count, times_from, times_in, capture_length, most_captured, is_capture, kind_part, command_part, reply_part, are_captures, is_recording}

-- ---- the parts of a capture

module _ (s d : List ℕ) (b : ℕ) (e : d ≡ drop 2 s) (f : b ≡ byte_count s) where
  pub bytes_first : (r : List ℕ) → r ≡ take b d → r ≡ byte_part s
  bytes_first r g = rw (g, e, f)

  pub times_behind : (r : List ℕ) → r ≡ drop b d → r ≡ time_part s
  times_behind r g = rw (g, e, f)

pub count_word : (s p : List ℕ) (t : ℕ) → p ≡ time_part s → t ≡ fields_word p 0 → t ≡ time_count s
count_word s p t e f = rw (f, e)

pub length_sum : (s : List ℕ) (b t : ℕ) → b ≡ byte_count s → t ≡ time_count s → 4 + b + 4 * t ≡ capture_length s
length_sum s b t e f = rw (e, f)

-- ---- its times, one behind the other

pub times_none : (ts from : List ℕ) → take 0 ts ≡ times_from 0 from
unfolding times_from
times_none ts from = refl

pub times_more : (s ts from : List ℕ) (i v n : ℕ) → take i ts ≡ times_from i from → v ≡ fields_long from (4 * i) → i < n → n ≡ time_count s → time_count s ≤ most_captured
    → length ts ≡ most_captured → take (i + 1) (set ts i v) ≡ times_from (i + 1) from
unfolding times_from
times_more s ts from i v n e f h k m l = rw (add-one i, take-suc-set ts i v (omega arith), e, f)

pub times_all : (s ts p from : List ℕ) (i n : ℕ) → take i ts ≡ times_from i from → i ≤ n → n ≤ i → n ≡ time_count s → p ≡ time_part s → from ≡ drop 2 p
    → take (time_count s) ts ≡ times_in s
times_all s ts p from i n e h k f g d = rw (← f, ← g, ← d, ← (le_antisymm h k)) e

-- ---- whether s starts with a capture

pub capture_bytes : (s : List ℕ) (b : ℕ) → b ≡ byte_count s → most_captured < b → false ≡ is_capture s
unfolding is_capture
capture_bytes s b e h = rw (← e, lt-leb b most_captured h)

module _ (s : List ℕ) (b t : ℕ) (e : b ≡ byte_count s) (h : b ≤ most_captured) (f : t ≡ time_count s) where
  pub capture_times : most_captured < t → false ≡ is_capture s
  unfolding is_capture
  capture_times k = rw (← f, ← e, le-leb b most_captured h, lt-leb t most_captured k)

  pub capture_whole : (l : ℕ) → t ≤ most_captured → l ≡ capture_length s → leb l (length s) ≡ is_capture s
  unfolding is_capture
  capture_whole l k g = rw (← g, ← f, ← e, le-leb b most_captured h, le-leb t most_captured k)

-- ---- whether a line is n, so many kinds and two captures

module _ (s d : List ℕ) (n : ℕ) (e : d ≡ drop 1 s) (f : n ≡ fields_byte s 0) where
  pub kinds_first : (r : List ℕ) → r ≡ take n d → r ≡ kind_part s
  kinds_first r g = rw (g, e, f)

  pub command_behind : (r : List ℕ) → r ≡ drop n d → r ≡ command_part s
  unfolding command_part
  command_behind r g = rw (g, e, f)

pub reply_behind : (s c r : List ℕ) (l : ℕ) → c ≡ command_part s → l ≡ capture_length c → r ≡ drop l c → r ≡ reply_part s
unfolding reply_part
reply_behind s c r l e f g = rw (g, f, e)

module _ (s c : List ℕ) (t : Bool) (e : c ≡ command_part s) (f : t ≡ is_capture c) where
  pub no_command : not t ≡ true → false ≡ are_captures s
  unfolding are_captures
  no_command h = rw (← e, ← f, not-true t h)

  module _ (r : List ℕ) (u : Bool) (h : not t ≡ false) (g : r ≡ reply_part s) (k : u ≡ is_capture r) where
    pub no_reply : not u ≡ true → false ≡ are_captures s
    unfolding are_captures
    no_reply m = rw (← e, ← f, not-false t h, ← g, ← k, not-true u m)

    pub nothing_behind : (l : ℕ) → not u ≡ false → l ≡ capture_length r → eqb (length r) l ≡ are_captures s
    unfolding are_captures
    nothing_behind l m q = rw (← e, ← f, not-false t h, ← g, ← k, not-false u m, q)

module _ (s d : List ℕ) (t : Bool) (e : d ≡ kind_part s) (f : t ≡ are_kinds d) where
  pub no_kinds : t ≡ false → false ≡ is_recording s
  unfolding is_recording
  no_kinds h = rw (← e, ← f, h)

  pub with_kinds : (u : Bool) → t ≡ true → u ≡ are_captures s → u ≡ is_recording s
  unfolding is_recording
  with_kinds u h g = rw (← e, ← f, h, g)
