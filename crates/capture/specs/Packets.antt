-- Document 02, 3: "a packet begins with a capture's first byte or after a gap of 2 ms or more".
use Rattle.std.specs.Prelude.{ℕ, suc, ◌+◌, ◌-◌, Bool, cond, List, [], ◌∷◌, ◌++◌, take, drop, leb}

-- "a gap of 2 ms or more", between a byte and the next one
abbrev pub is_gap : ℕ → ℕ → Bool
is_gap before after = leb (before + 2) after

-- a packet of a capture: the time of its first byte, and its bytes
pub record Packet : Type 0 where
  pub start : ℕ
  pub bytes : List ℕ

-- a byte that came without a gap before a packet's bytes belongs to it
abbrev pub onto : ℕ → ℕ → List Packet → List Packet
onto t b [] = record { start = t; bytes = b ∷ [] } ∷ []
onto t b (p ∷ ps) = record { start = t; bytes = b ∷ p.bytes } ∷ ps

-- the packets of a capture, from its times and its bytes
abbrev pub packets : List ℕ → List ℕ → List Packet
packets [] bs = []
packets (t ∷ ts) [] = []
packets (t ∷ []) (b ∷ bs) = record { start = t; bytes = b ∷ [] } ∷ []
packets (t ∷ u ∷ ts) (b ∷ bs) = cond (is_gap t u) (record { start = t; bytes = b ∷ [] } ∷ packets (u ∷ ts) bs) (onto t b (packets (u ∷ ts) bs))

-- how many bytes follow one of time t in its packet, by the times of those that follow
abbrev pub run_on : ℕ → List ℕ → ℕ
run_on t [] = 0
run_on t (u ∷ ts) = cond (is_gap t u) 0 (suc (run_on u ts))

-- how many bytes the first packet has
abbrev pub first_count : List ℕ → ℕ
first_count [] = 0
first_count (t ∷ ts) = suc (run_on t ts)

-- where the packet that starts at a byte ends
unfoldable pub packet_end : List ℕ → ℕ → ℕ
packet_end ts at = at + first_count (drop at ts)

-- the bytes from one position to another
unfoldable pub cut_of : List ℕ → ℕ → ℕ → List ℕ
cut_of s from end = take (end - from) (drop from s)

-- the bytes of packets, put together
abbrev pub joined : List Packet → List ℕ
joined [] = []
joined (p ∷ ps) = p.bytes ++ joined ps
