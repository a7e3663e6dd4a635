-- Document 01: "Per packet line it writes the reply in the same form, "-" for none, "collision" for 13, or "refused " and the number". Each line with its newline.
use Rattle.std.specs.Prelude.{ℕ, List, [], ◌∷◌, ◌++◌, take, Result, Ok, Err}
use Rattle.wire.specs.Numbers.{number_of}
use Rattle.wire.specs.declared.refusal.Refusal.{Refusal}
use Rattle.text.specs.Lines.{newline}
use Rattle.text.specs.Digits.{decimal_of}
use Rattle.hexadecimal.specs.Hex.{hex_line}
use Rattle.survey.specs.declared.decision.Delivery.{Delivery}
use Rattle.survey.specs.declared.decision.Delivery.TheVariants.{Silent, Replied, Collision}

-- "-"
abbrev pub silent_line : List ℕ
silent_line = 45 ∷ newline ∷ []

-- "collision"
abbrev pub collision_line : List ℕ
collision_line = 99 ∷ 111 ∷ 108 ∷ 108 ∷ 105 ∷ 115 ∷ 105 ∷ 111 ∷ 110 ∷ newline ∷ []

-- "refused "
abbrev pub refused_word : List ℕ
refused_word = 114 ∷ 101 ∷ 102 ∷ 117 ∷ 115 ∷ 101 ∷ 100 ∷ 32 ∷ []

-- a number at the end of a line
unfoldable pub number_end : ℕ → List ℕ
number_end n = decimal_of n ++ (newline ∷ [])

-- "refused " and the number
abbrev pub refused_line : Refusal → List ℕ
refused_line why = refused_word ++ number_end (number_of why)

-- the line for an answer, where the reply stands at the start of b
abbrev pub answer_line : Result Delivery Refusal → List ℕ → List ℕ
answer_line (Ok Silent) b = silent_line
answer_line (Ok (Replied n)) b = hex_line (take n b)
answer_line (Ok Collision) b = collision_line
answer_line (Err why) b = refused_line why
