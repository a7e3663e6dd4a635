-- What is known of the bytes that a line says.
use Prim.Native.Nat.{ℕ, ◌+◌, ◌/◌, ◌≤◌, ◌<◌}
use mathlib.Core.Bool.{true}
use mathlib.Core.List.{List, [], ◌∷◌}
use mathlib.Core.Path.{◌≡◌, refl, ap, ◌∙◌}
use native.Mathlib.Omega.{arith}
use native.Mathlib.Nat.{not-suc-le-zero}
use lib.Dec.{eqb, ltb}
use lib.ListN.{length, drop, get_or}
use borrow.Author.Tests.{ltb-true, eqb-true}
use Rattle.wire.proofs.Choice.{chose_first}
use Rattle.wire.proofs.Impossible.{impossible}
use Rattle.buffer.specs.Sum.{with_sum}
use Rattle.buffer.specs.Change.{AllBytes}
use Rattle.buffer.proofs.Bytes.{byte_at}
use Rattle.buffer.proofs.Sums.{length_with_sum}
use Rattle.hexadecimal.specs.Hex.{Content, bytes, malformed, before}
use Rattle.sheet.specs.Line.{starts_hex, byte_in, numerals_of, numeral_bytes, right_count, line_in}
use Rattle.sheet.specs.Sheet.{sheet_packet}

-- a malformed line says nothing
pub not_bytes : (d : List ℕ) → malformed ≡ bytes d → ⊥
not_bytes d e = impossible cc

numerals_bytes : (ws : List (List ℕ)) (d : List ℕ) → numeral_bytes ws ≡ bytes d → AllBytes d
numerals_bytes [] d e = let z : d ≡ [] = cc in rw z tt
numerals_bytes (w ∷ ws) d e =
    let t = chose_first (ltb (byte_in w) 256) e (not_bytes d) in
    behind (numeral_bytes ws) (λ m. numerals_bytes ws m) t.1 (ltb-true (byte_in w) 256 t.0)
  where
    behind : (c : Content) → ((m : List ℕ) → c ≡ bytes m → AllBytes m) → before (byte_in w) c ≡ bytes d → byte_in w < 256 → AllBytes d
    behind malformed ih e h = impossible cc
    behind (bytes m) ih e h = let z : d ≡ byte_in w ∷ m = cc in rw z (h, ih m refl)

-- "The data bytes number what the command byte says"
pub record Said (d : List ℕ) : Type 0 where
  pub small : AllBytes d
  pub count : length d ≡ 2 + get_or d 1 0 / 16

counted_says : (c : Content) (d : List ℕ) → right_count c ≡ bytes d → (c ≡ bytes d) × (length d ≡ 2 + get_or d 1 0 / 16)
counted_says malformed d e = impossible cc
counted_says (bytes m) d e =
    let t = chose_first (eqb (length m) (2 + get_or m 1 0 / 16)) e (not_bytes d) in
    let z : m ≡ d = cc t.1 in
    (t.1, rw z at (eqb-true (length m) (2 + get_or m 1 0 / 16) t.0))

-- how a line says some bytes
pub record Spoken (l d : List ℕ) : Type 0 where
  pub starts : starts_hex l ≡ true
  pub numerals : numeral_bytes (numerals_of (drop 4 l)) ≡ bytes d
  pub count : length d ≡ 2 + get_or d 1 0 / 16

pub line_spoken : (l d : List ℕ) → line_in l ≡ bytes d → Spoken l d
unfolding line_in
line_spoken l d e =
    let t = chose_first (starts_hex l) e (not_bytes d) in
    let c = counted_says (numeral_bytes (numerals_of (drop 4 l))) d t.1 in
    record { starts = t.0; numerals = c.0; count = c.1 }

pub line_says : (l d : List ℕ) → line_in l ≡ bytes d → Said d
line_says l d e =
    let t = line_spoken l d e in
    record { small = numerals_bytes (numerals_of (drop 4 l)) d t.numerals; count = t.count }

-- two to 17 bytes
pub said_some : (d : List ℕ) → Said d → 2 ≤ length d
said_some d s = omega (arith, s.count)

pub said_few : (d : List ℕ) → Said d → length d ≤ 17
said_few d s = omega (arith, s.count, byte_at d 1 s.small)

-- header and sum come to them
pub packet_says : (d : List ℕ) → 2 ≤ length d → sheet_packet d ≡ 0xAA ∷ with_sum d
packet_says [] h = absurd (not-suc-le-zero h)
packet_says (x ∷ []) h = absurd (omega arith)
packet_says (x ∷ y ∷ d) h = refl

pub packet_long : (d : List ℕ) → 2 ≤ length d → length (sheet_packet d) ≡ length d + 2
packet_long d h = ap (λ (l : List ℕ). length l) (packet_says d h) ∙ (omega (arith, length_with_sum d))
