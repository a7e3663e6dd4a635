-- Bytes read one by one, each stored behind those before it, if there is room.
use Prim.Native.Nat.{ℕ, ◌+◌}
use mathlib.Core.List.{List}
use mathlib.Core.Path.{◌≡◌, refl, ap, ◌∙◌}
use native.Mathlib.Nat.{add-suc, suc-add}
use native.Mathlib.Numerals.{add-one}
use lib.ListN.{length, set, length-set}
use Rattle.hexadecimal.specs.Hex.{Content, bytes, malformed, before}
use Rattle.hexadecimal.specs.Gathering.{read_pairs}

-- the first byte stored, and then the others
pub laid_before : (v i : ℕ) (out : List ℕ) (c : Content) → read_pairs (before v c) i out ≡ read_pairs c (i + 1) (set out i v)
laid_before v i out (bytes d) = rw (add-one i, add-suc i (length d), suc-add i (length d))
laid_before v i out malformed = refl

-- a store keeps the length
pub store_long : (out left : List ℕ) (i b n : ℕ) → left ≡ set out i b → length out ≡ n → length left ≡ n
store_long out left i b n e f = ap (λ (l : List ℕ). length l) e ∙ length-set out i b ∙ f
