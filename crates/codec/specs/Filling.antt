-- Serves private contracts: the command byte and the data bytes, as the code hands them to the raw builder.
use Rattle.std.specs.Prelude.{ℕ, ◌+◌, ◌-◌, ◌*◌, ◌/◌, ◌%◌, Bool, List, [], ◌∷◌, ◌++◌, length, replicate}
use Rattle.command.specs.declared.Command.{Command}
use Rattle.codec.specs.Build.{code_of, bytes_if, own_data}

-- the command byte: "The low nibble of the command byte is the command, the high nibble the number of data bytes"
abbrev pub command_head : Command → ℕ
command_head c = code_of c + length (own_data c) * 16

-- fourteen bytes, the most that a command has: some data bytes, and zeros behind them
abbrev pub filled : List ℕ → List ℕ
filled d = d ++ replicate (14 - length d) 0

-- up to four data bytes; a word and two more; a byte, if it is brought
abbrev pub four_data : ℕ → ℕ → ℕ → ℕ → List ℕ
four_data a b c d = filled (a ∷ b ∷ c ∷ d ∷ [])

abbrev pub word_data : ℕ → ℕ → ℕ → List ℕ
word_data w c d = filled (w % 256 ∷ w / 256 ∷ c ∷ d ∷ [])

abbrev pub byte_data : Bool → ℕ → List ℕ
byte_data brought b = filled (bytes_if brought (b ∷ []))
