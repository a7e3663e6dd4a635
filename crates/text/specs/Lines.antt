-- Document 01: "A newline ends each line; the last may lack it".
use Rattle.std.specs.Prelude.{ℕ, cond, List, [], ◌∷◌, eqb}

abbrev pub newline : ℕ
newline = 10

-- the first line, without its newline
abbrev pub first_line : List ℕ → List ℕ
first_line [] = []
first_line (b ∷ s) = cond (eqb b newline) [] (b ∷ first_line s)

-- b in front of the first line
abbrev pub grown : ℕ → List (List ℕ) → List (List ℕ)
grown b [] = (b ∷ []) ∷ []
grown b (l ∷ ls) = (b ∷ l) ∷ ls

-- the lines of a text, without their newlines
abbrev pub lines_of : List ℕ → List (List ℕ)
lines_of [] = []
lines_of (b ∷ s) = cond (eqb b newline) ([] ∷ lines_of s) (grown b (lines_of s))
