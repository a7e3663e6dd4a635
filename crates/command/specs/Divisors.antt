-- The manuals' tables of baud rates, and document 02, request 7: "Only divisors listed in the manual of every kind on the chain are set or sent at".
use Rattle.std.specs.Prelude.{ℕ, Bool, false, ◌||◌, List, [], ◌∷◌, eqb}
use Rattle.wire.specs.declared.kind.Kind.{Kind}
use Rattle.wire.specs.declared.kind.Kind.TheVariants.{Gate, Drive}

-- the divisors of 9,600, 19,200, 57,600 and 115,200 baud, which both manuals list, and those that the LS-773's has besides
abbrev pub divisors_of : Kind → List ℕ
divisors_of Gate = 0x81 ∷ 0x3F ∷ 0x14 ∷ 0x0A ∷ 0x27 ∷ 0x0F ∷ 0x07 ∷ 0x03 ∷ []
divisors_of Drive = 0x81 ∷ 0x3F ∷ 0x14 ∷ 0x0A ∷ []

abbrev pub is_in : ℕ → List ℕ → Bool
is_in d [] = false
is_in d (x ∷ xs) = eqb d x || is_in d xs

-- a kind's manual lists it
unfoldable pub is_listed : Kind → ℕ → Bool
is_listed k d = is_in d (divisors_of k)
