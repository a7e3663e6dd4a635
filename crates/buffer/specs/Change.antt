-- Demand 3's line faults: "with one byte .. changed". And what holds bytes.
use Rattle.std.specs.Prelude.{◌≡◌, ℕ, ◌<◌, List, [], ◌∷◌, length, slice_index, slice_index_or, slice_set}

-- each element is a byte
abbrev pub AllBytes : List ℕ → Type 0
AllBytes [] = Unit {0}
AllBytes (x ∷ l) = (x < 256) × AllBytes l

-- t is s with the byte at i changed to another
pub record Changed (i : ℕ) (s t : List ℕ) : Type 0 where
  pub value : ℕ
  pub inside : i < length s
  pub was : slice_index_or s i 0 < 256
  pub byte : value < 256
  pub other : value ≡ slice_index s i → ⊥
  pub result : t ≡ slice_set s i value

-- a reply "with one byte changed"
pub record Altered (s t : List ℕ) : Type 0 where
  pub at : ℕ
  pub change : Changed at s t

-- a command packet "with one byte other than header and command byte changed"
pub record Damaged (s t : List ℕ) : Type 0 where
  pub at : ℕ
  pub change : Changed at s t
  pub not_header : at ≡ 0 → ⊥
  pub not_command : at ≡ 2 → ⊥
