-- Document 01, "Packets", and document 02, request 2: reading a command packet, which says "where the packet ends" and accepts "what follows".
use Rattle.std.specs.Prelude.{ℕ, ◌+◌, ◌/◌, ◌%◌, Bool, cond, not, List, length, take, drop, ◌==◌, nat_lt, slice_index, Result, Ok, Err}
use Rattle.wire.specs.declared.refusal.Refusal.{Refusal}
use Rattle.packet.specs.declared.Framed.{Framed}
use Rattle.wire.specs.Numbers.{done, number_of, number_by}
use Rattle.buffer.specs.Sum.{ends_in_sum}
use Rattle.wire.specs.Address.{address_of}
use Rattle.wire.specs.declared.address.Address.{Address}
use Rattle.wire.specs.declared.refusal.Refusal.TheVariants.{Short, Header, Sum}

-- "The low nibble of the command byte is the command, the high nibble the number of data bytes"
abbrev pub command_of : List ℕ → ℕ
command_of s = slice_index s 2 % 16

abbrev pub count_of : List ℕ → ℕ
count_of s = slice_index s 2 / 16

-- where a packet ends: behind "4 + count" bytes
abbrev pub end_of : List ℕ → ℕ
end_of s = 4 + count_of s

-- what reading finds of a packet: its address, its command, and where it ends
abbrev pub whole : Address → ℕ → ℕ → Result Framed Refusal
whole a c e = Ok (record { address = a; command = c; end = e })

-- the parts that a packet's bytes name, and its end
abbrev pub parts_of : List ℕ → Result Framed Refusal
parts_of s = whole (address_of (slice_index s 1)) (command_of s) (end_of s)

-- "its fourth byte", counted from 0
abbrev pub data_from : ℕ
data_from = 3

-- "the data bytes as the part of the input that starts at its fourth byte"
unfoldable pub data_part : List ℕ → List ℕ
data_part s = take (count_of s) (drop data_from s)

-- "empty, 1; first byte not 0xAA, 2; fewer than 4 bytes or fewer than 4 + count, 1", whatever follows the packet
unfoldable pub frame_of : List ℕ → Result Framed Refusal
frame_of s =
    cond (nat_lt (length s) 1) (Err Short)
    (cond (not (slice_index s 0 == 0xAA)) (Err Header)
    (cond (nat_lt (length s) 4) (Err Short)
    (cond (nat_lt (length s) (end_of s)) (Err Short)
    (parts_of s))))

-- the sum of a packet's bytes is right; "the header isn't in it"
unfoldable pub is_intact : List ℕ → Bool
is_intact s = ends_in_sum (drop 1 s)

-- "sum, 4", the last of the checks: of "the bytes up to that end"
abbrev pub checked : List ℕ → Result Framed Refusal → Result Framed Refusal
checked s (Ok f) = cond (is_intact (take f.end s)) (Ok f) (Err Sum)
checked s (Err why) = Err why

unfoldable pub read_of : List ℕ → Result Framed Refusal
read_of s = checked s (frame_of s)
