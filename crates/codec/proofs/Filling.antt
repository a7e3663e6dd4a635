-- A command's packet is built by the raw builder: its 6 can't occur, since a number is a nibble and no command has more than fourteen data bytes.
use Prim.Native.Nat.{ℕ, ◌+◌, ◌-◌, ◌*◌, ◌%◌, ◌/◌, ◌≤◌}
use Rattle.wire.specs.declared.refusal.Refusal.{Refusal}
use Rattle.std.specs.Prelude.{Result, Err, ℕ}
use Rattle.wire.specs.Numbers.{number_by}
use mathlib.Core.Bool.{Bool, true, false}
use mathlib.Core.List.{List, [], ◌∷◌, ◌++◌, append_assoc, append-nil}
use mathlib.Core.Path.{◌≡◌, sym, ap, ◌∙◌}
use native.Mathlib.Omega.{arith}
use lib.ListN.{length, take, replicate, length-append, length-replicate, replicate-append-replicate}
use lib.Seq.{length-take-le, take-append_seam, take_at, take_all}
use borrow.Author.Tests.{le-ltb}
use Rattle.wire.specs.Promise.{Lending, lent}
use Rattle.wire.specs.Address.{in_range, byte_of}
use Rattle.buffer.specs.Buffer.{put_of, written}
use Rattle.wire.specs.declared.address.Address.{Address}
use Rattle.wire.specs.declared.refusal.Refusal.TheVariants.{Range}
use Rattle.packet.specs.Build.{build_of}
use Rattle.command.specs.Control.{loads_of, is_stop_here}
use Rattle.command.specs.Ranges.{fits_of}
use Rattle.command.specs.declared.Loads.{Loads}
use Rattle.command.specs.declared.Place.{Place}
use Rattle.command.specs.declared.Motion.{Motion}
use Rattle.command.specs.declared.Stop.{Stop}
use Rattle.command.specs.declared.Command.{Command}
use Rattle.command.specs.declared.Command.TheVariants.{SetAddress, LoadTrajectory, StopMotor}
use Rattle.codec.specs.Reading.{load_count}
use Rattle.codec.specs.Build.{code_of, group_byte, long_bytes, bytes_if, load_data, stop_data, own_data, packet_to, build_for, codec_build}
use Rattle.codec.specs.Filling.{command_head, filled}
use Rattle.codec.proofs.Loads.{load_count_lem, stop_count_lem}
use Rattle.codec.proofs.Rows.{sized}

-- ---- the command byte

pub head_told : (c v : Command) (r : ℕ) → c ≡ v → r ≡ command_head v → r ≡ command_head c
head_told c v r e h = rw e h

pub load_head : (c : Command) (m : Motion) (n : ℕ) → c ≡ LoadTrajectory m → n ≡ load_count m.control → 0x04 + n * 16 ≡ command_head c
load_head c m n e h = rw (e, h, load_count_lem m)

pub stop_head : (c : Command) (s : Stop) → c ≡ StopMotor s → 0x17 + s.byte / 16 % 2 * 64 ≡ command_head c
stop_head c s e = let n = stop_count_lem s in rw e (omega arith)

-- ---- fourteen bytes

-- zeros behind are cut off where bytes come before
before : (p d : List ℕ) → length p + length d ≤ 14 → take 14 (p ++ filled d) ≡ filled (p ++ d)
before p d h =
    let n = length-append p d in
    let z = 14 - length (p ++ d) in
    let e : 14 - length d ≡ z + length p = omega arith in
    let long : length (p ++ (d ++ replicate z 0)) ≡ 14 = omega (arith, length-append p (d ++ replicate z 0), length-append d (replicate z 0), length-replicate {A = ℕ} z 0) in
    let parted : p ++ filled d ≡ p ++ (d ++ replicate z 0) ++ replicate (length p) 0 =
    rw (append_assoc p (d ++ replicate z 0) (replicate (length p) 0), append_assoc d (replicate z 0) (replicate (length p) 0), replicate-append-replicate {A = ℕ} z (length p) 0, e) in
    ap (λ (l : List ℕ). take 14 l) parted ∙ take_at (p ++ (d ++ replicate z 0)) (replicate (length p) 0) 14 long ∙ sym (append_assoc p d (replicate z 0))

module _ (brought : Bool) (v : ℕ) where
  pub byte_filled : (r : List ℕ) → brought ≡ true → r ≡ filled (v ∷ 0 ∷ 0 ∷ 0 ∷ []) → r ≡ filled (bytes_if brought (v ∷ []))
  byte_filled r h e = rw h e

  pub none_filled : (r : List ℕ) → brought ≡ false → r ≡ replicate 14 0 → r ≡ filled (bytes_if brought (v ∷ []))
  none_filled r h e = rw h e

  module _ (others : List ℕ) (n : length others ≡ 14) where
    pub long_put : (l one two : List ℕ) → brought ≡ true → l ≡ long_bytes v → one ≡ put_of (replicate 14 0) 0 l → two ≡ put_of one 4 (take 10 others)
        → two ≡ take 14 (bytes_if brought (long_bytes v) ++ others)
    unfolding put_of
    long_put l one two h el e1 e2 =
        let k = length-take-le 10 others (omega arith) in
        e2 ∙ rw (h, e1, el, k) (append-nil (long_bytes v ++ take 10 others))

    pub none_put : brought ≡ false → others ≡ take 14 (bytes_if brought (long_bytes v) ++ others)
    none_put h = rw h (sym (take_all 14 others (omega arith)))

pub byte_put : (b : ℕ) (others r : List ℕ) → length others ≡ 14 → r ≡ put_of (replicate 14 b) 1 (take 13 others) → r ≡ take 14 (b ∷ others)
unfolding put_of
byte_put b others r n e =
    let k = length-take-le 13 others (omega arith) in
    e ∙ rw k (append-nil (b ∷ take 13 others))

-- so many bytes are taken of them
pub ten : (others : List ℕ) → length others ≡ 14 → 10 ≡ length (take 10 others)
ten others e = sym (length-take-le 10 others (omega arith))

pub thirteen : (others : List ℕ) → length others ≡ 14 → 13 ≡ length (take 13 others)
thirteen others e = sym (length-take-le 13 others (omega arith))

-- ---- data bytes

long_few : (b : Bool) (v : ℕ) → length (bytes_if b (long_bytes v)) ≤ 4
long_few true v = omega arith
long_few false v = omega arith

byte_few : (b : Bool) (v : ℕ) → length (bytes_if b (v ∷ [])) ≤ 1
byte_few true v = omega arith
byte_few false v = omega arith

module _ (c p v a w : ℕ) (x y z t : Bool) where
  abbrev P : List ℕ
  P = bytes_if x (long_bytes p)

  abbrev S : List ℕ
  S = bytes_if y (long_bytes v)

  abbrev A : List ℕ
  A = bytes_if z (long_bytes a)

  abbrev W : List ℕ
  W = bytes_if t (w ∷ [])

  shifted : take 14 (c ∷ take 14 (P ++ take 14 (S ++ take 14 (A ++ filled W)))) ≡ filled (c ∷ (P ++ (S ++ (A ++ W))))
  shifted =
      let lp = long_few x p in
      let lv = long_few y v in
      let la = long_few z a in
      let lw = byte_few t w in
      let one = length-append A W in
      let two = length-append S (A ++ W) in
      let three = length-append P (S ++ (A ++ W)) in
      rw (before A W (omega arith), before S (A ++ W) (omega arith), before P (S ++ (A ++ W)) (omega arith)) (before (c ∷ []) (P ++ (S ++ (A ++ W))) (omega arith))

pub load_filled : (m : Motion) (l : Loads) (w a v p r : List ℕ) → l ≡ loads_of m.control → w ≡ filled (bytes_if l.pwm (m.pwm ∷ []))
    → a ≡ take 14 (bytes_if l.acceleration (long_bytes m.acceleration) ++ w) → v ≡ take 14 (bytes_if l.velocity (long_bytes m.velocity) ++ a)
    → p ≡ take 14 (bytes_if l.position (long_bytes m.position) ++ v) → r ≡ take 14 (m.control ∷ p) → r ≡ filled (load_data m)
unfolding load_data
load_filled m l w a v p r el ew ea ev ep er =
    rw (er, ep, ev, ea, ew, el)
    (shifted m.control m.position m.velocity m.acceleration m.pwm (loads_of m.control).position (loads_of m.control).velocity (loads_of m.control).acceleration (loads_of m.control).pwm)

pub stop_filled : (s : Stop) (h : Bool) (p r : List ℕ) → h ≡ is_stop_here s.byte → p ≡ take 14 (bytes_if h (long_bytes s.position) ++ replicate 14 0) → r ≡ take 14 (s.byte ∷ p)
    → r ≡ filled (stop_data s)
unfolding stop_data
stop_filled s h p r eh ep er =
    let n = long_few (is_stop_here s.byte) s.position in
    let d = bytes_if (is_stop_here s.byte) (long_bytes s.position) in
    er ∙ rw (ep, eh, before d [] (omega arith), append-nil d) (before (s.byte ∷ []) d (omega arith))

pub data_told : (c v : Command) (r : List ℕ) → c ≡ v → r ≡ filled (own_data v) → r ≡ filled (own_data c)
data_told c v r e h = rw e h

pub place_data : (c : Command) (p : Place) (g : ℕ) (r : List ℕ) → c ≡ SetAddress p → g ≡ group_byte p → r ≡ filled (p.address.0 ∷ g ∷ 0 ∷ 0 ∷ []) → r ≡ filled (own_data c)
place_data c p g r e h q = q ∙ rw (e, h)

-- ---- the packet

-- the command byte holds both numbers
number : (c : Command) → command_head c % 16 ≡ code_of c
number c = let z = sized c in omega arith

count : (c : Command) → command_head c / 16 ≡ length (own_data c)
count c = let z = sized c in omega arith

module _ (c : Command) (h : ℕ) (d : List ℕ) (eh : h ≡ command_head c) (ed : d ≡ filled (own_data c)) where
  -- the data bytes are there, in front
  pub within : h / 16 ≤ length d
  within =
      let n = length-append (own_data c) (replicate (14 - length (own_data c)) 0) in
      let k = count c in
      rw (eh, ed) (omega arith)

  pub counted : h / 16 ≡ length (take (h / 16) d)
  counted = sym (length-take-le (h / 16) d within)

  in_front : take (h / 16) d ≡ own_data c
  in_front = rw (eh, ed, count c) (take-append_seam (own_data c) _)

  -- the number and data bytes of a command were handed to the raw builder
  pub handed : (a : ℕ) (out o : List ℕ) (r : Result ℕ Refusal)
      → Lending number_by r o (build_of a (h % 16) (take (h / 16) d) out) → Lending number_by r o (written (packet_to a c) out)
  unfolding build_of
  handed a out o r l =
      let z = sized c in
      rw (in_front, eh, number c, le-ltb 15 (length (own_data c)) (omega arith), le-ltb 15 (code_of c) (omega arith)) at l

-- an address and a command of their ranges are built, all others are refused
module _ (to : Address) (k : Command) (out : List ℕ) (ok : Bool) (e : ok ≡ in_range to) where
  pub no_address : ok ≡ false → Lending number_by (Err Range) out (codec_build to k out)
  unfolding codec_build
  no_address h = lent (rw (sym e ∙ h))

  module _ (yes : ok ≡ true) (fit : Bool) (f : fit ≡ fits_of k) where
    pub unfit : fit ≡ false → Lending number_by (Err Range) out (codec_build to k out)
    unfolding codec_build build_for
    unfit h = lent (rw (sym e ∙ yes, sym f ∙ h))

    pub sent : (a : ℕ) (r : Result ℕ Refusal) (o : List ℕ) → fit ≡ true → a ≡ byte_of to → Lending number_by r o (written (packet_to a k) out)
        → Lending number_by r o (codec_build to k out)
    unfolding codec_build build_for
    sent a r o h b l = rw (sym e ∙ yes, sym f ∙ h) (rw b at l)
