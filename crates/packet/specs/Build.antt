-- Document 01, "Packets": building a command packet.
use Rattle.std.specs.Prelude.{ℕ, ◌+◌, ◌*◌, cond, List, ◌∷◌, length, nat_lt, Result}
use Rattle.wire.specs.declared.refusal.Refusal.{Refusal}
use Rattle.wire.specs.Promise.{Outcome}
use Rattle.buffer.specs.Sum.{with_sum}
use Rattle.buffer.specs.Buffer.{refused, written}
use Rattle.wire.specs.declared.refusal.Refusal.TheVariants.{Range}

-- the command byte: the low nibble is the command, the high nibble the number of data bytes
abbrev pub head_of : ℕ → List ℕ → ℕ
head_of c d = c + length d * 16

-- "0xAA; address; command byte; 0 to 15 data bytes; sum", the header not in the sum
abbrev pub packet_with : ℕ → ℕ → List ℕ → List ℕ
packet_with a h d = 0xAA ∷ with_sum (a ∷ h ∷ d)

-- the packet of an address, a command and data bytes
abbrev pub packet_of : ℕ → ℕ → List ℕ → List ℕ
packet_of a c d = packet_with a (head_of c d) d

-- "over 15 data bytes, command above 15", 6; "A builder takes any address byte and gives 6 before 5"
unfoldable pub build_of : ℕ → ℕ → List ℕ → List ℕ → Outcome (Result ℕ Refusal) (List ℕ)
build_of a c d out =
    cond (nat_lt 15 (length d)) (refused Range out)
    (cond (nat_lt 15 c) (refused Range out)
    (written (packet_of a c d) out))
