-- The packets of a capture: the first one and the rest; put together they are the capture.
use Prim.Native.Nat.{ℕ, suc}
use native.Mathlib.Omega.{arith}
use mathlib.Core.Path.{◌≡◌, refl, ap, ◌∙◌}
use mathlib.Core.Bool.{Bool, true, false, cond}
use mathlib.Core.List.{List, [], ◌∷◌}
use lib.ListN.{length, take, drop}
use Rattle.capture.specs.Packets.{is_gap, Packet, onto, packets, run_on, joined}

-- the first packet runs to the first gap, and what is left is the packets of the rest
by_gap : (g : Bool) (t b u c : ℕ) (ts bs : List ℕ) (n : ℕ)
    → packets (u ∷ ts) (c ∷ bs) ≡ record { start = u; bytes = c ∷ take n bs } ∷ packets (drop n ts) (drop n bs)
    → cond g (record { start = t; bytes = b ∷ [] } ∷ packets (u ∷ ts) (c ∷ bs)) (onto t b (packets (u ∷ ts) (c ∷ bs)))
    ≡ record { start = t; bytes = b ∷ take (cond g 0 (suc n)) (c ∷ bs) } ∷ packets (drop (cond g 0 (suc n)) (u ∷ ts)) (drop (cond g 0 (suc n)) (c ∷ bs))
by_gap true t b u c ts bs n e = refl
by_gap false t b u c ts bs n e = ap (onto t b) e

pub first_packet : (t b : ℕ) (ts bs : List ℕ) → length ts ≡ length bs
    → packets (t ∷ ts) (b ∷ bs) ≡ record { start = t; bytes = b ∷ take (run_on t ts) bs } ∷ packets (drop (run_on t ts) ts) (drop (run_on t ts) bs)
first_packet t b [] bs h = refl
first_packet t b (u ∷ ts) [] h = absurd (omega arith)
first_packet t b (u ∷ ts) (c ∷ bs) h = by_gap (is_gap t u) t b u c ts bs (run_on u ts) (first_packet u c ts bs (omega arith))

joined_onto : (t b : ℕ) (ps : List Packet) → joined (onto t b ps) ≡ b ∷ joined ps
joined_onto t b [] = refl
joined_onto t b (p ∷ ps) = refl

joined_gap : (g : Bool) (t b : ℕ) (ps : List Packet) → joined (cond g (record { start = t; bytes = b ∷ [] } ∷ ps) (onto t b ps)) ≡ b ∷ joined ps
joined_gap true t b ps = refl
joined_gap false t b ps = joined_onto t b ps

-- "the packets put together are the capture": no byte is lost or shown twice
pub joined_packets : (ts bs : List ℕ) → length ts ≡ length bs → joined (packets ts bs) ≡ bs
joined_packets [] [] h = refl
joined_packets [] (b ∷ bs) h = absurd (omega arith)
joined_packets (t ∷ ts) [] h = absurd (omega arith)
joined_packets (t ∷ []) (b ∷ []) h = refl
joined_packets (t ∷ []) (b ∷ c ∷ bs) h = absurd (omega arith)
joined_packets (t ∷ u ∷ ts) (b ∷ bs) h = joined_gap (is_gap t u) t b (packets (u ∷ ts) bs) ∙ ap (λ (l : List ℕ). b ∷ l) (joined_packets (u ∷ ts) bs (omega arith))
