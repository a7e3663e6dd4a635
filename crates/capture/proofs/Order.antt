-- Where no time is less than the one before, the packets are shown in the order in which they start.
use Prim.Native.Nat.{ℕ, ◌≤◌, ◌<◌}
use native.Mathlib.Omega.{arith}
use mathlib.Core.Path.{◌≡◌, refl}
use mathlib.Core.Bool.{Bool, true, false, cond}
use mathlib.Core.List.{List, [], ◌∷◌}
use lib.Dec.{leb, ltb}
use borrow.Author.Tests.{leb-true, leb-false, ltb-false}
use Rattle.capture.specs.Packets.{is_gap, Packet, onto, packets}
use Rattle.capture.specs.Checks.{rises_from, is_rising}
use Rattle.capture.specs.Steps.{Recorded, sent, got, replies, merge, outset, left_at}
use Rattle.capture.proofs.Meaning.{not_false, then_rest}

abbrev pub start_of : Recorded → ℕ
start_of (sent p) = p.start
start_of (got p) = p.start

-- the first, if there is one, starts at t or later
abbrev FromP : ℕ → List Packet → Type 0
FromP t [] = Unit
FromP t (p ∷ ps) = t ≤ p.start

abbrev InOrderP : List Packet → Type 0
InOrderP [] = Unit
InOrderP (p ∷ ps) = FromP p.start ps × InOrderP ps

abbrev pub From : ℕ → List Recorded → Type 0
From t [] = Unit
From t (s ∷ ss) = t ≤ start_of s

-- each starts no earlier than the one before
abbrev pub InOrder : List Recorded → Type 0
InOrder [] = Unit
InOrder (s ∷ ss) = From (start_of s) ss × InOrder ss

-- ---- of one capture
from_onto : (t u b : ℕ) (ps : List Packet) → t ≤ u → FromP t (onto u b ps)
from_onto t u b [] h = h
from_onto t u b (p ∷ ps) h = h

from_gap : (g : Bool) (t u b : ℕ) (ps : List Packet) → t ≤ u → FromP t (cond g (record { start = u; bytes = b ∷ [] } ∷ ps) (onto u b ps))
from_gap true t u b ps h = h
from_gap false t u b ps h = from_onto t u b ps h

packets_from_lem : (t u : ℕ) (ts bs : List ℕ) → t ≤ u → FromP t (packets (u ∷ ts) bs)
packets_from_lem t u ts [] h = tt
packets_from_lem t u [] (b ∷ bs) h = h
packets_from_lem t u (v ∷ ts) (b ∷ bs) h = from_gap (is_gap u v) t u b (packets (v ∷ ts) bs) h

earlier_from : (t u : ℕ) (ps : List Packet) → t ≤ u → FromP u ps → FromP t ps
earlier_from t u [] h k = tt
earlier_from t u (p ∷ ps) h k = omega arith

order_onto : (t b : ℕ) (ps : List Packet) → FromP t ps → InOrderP ps → InOrderP (onto t b ps)
order_onto t b [] h k = (tt, tt)
order_onto t b (p ∷ ps) h k = (earlier_from t p.start ps h k.0, k.1)

order_gap : (g : Bool) (t b : ℕ) (ps : List Packet) → FromP t ps → InOrderP ps → InOrderP (cond g (record { start = t; bytes = b ∷ [] } ∷ ps) (onto t b ps))
order_gap true t b ps h k = (h, k)
order_gap false t b ps h k = order_onto t b ps h k

packets_order : (t : ℕ) (ts bs : List ℕ) → rises_from t ts ≡ true → InOrderP (packets (t ∷ ts) bs)
packets_order t ts [] h = tt
packets_order t [] (b ∷ bs) h = (tt, tt)
packets_order t (u ∷ ts) (b ∷ bs) h =
    order_gap (is_gap t u) t b (packets (u ∷ ts) bs)
    (packets_from_lem t u ts bs (ltb-false u t (not_false (ltb u t) (rises_from u ts) h)))
    (packets_order u ts bs (then_rest (ltb u t) (rises_from u ts) h))

-- ---- of both
replies_from : (t : ℕ) (qs : List Packet) → FromP t qs → From t (replies qs)
replies_from t [] h = tt
replies_from t (q ∷ qs) h = h

replies_order : (qs : List Packet) → InOrderP qs → InOrder (replies qs)
replies_order [] h = tt
replies_order (q ∷ qs) h = (replies_from q.start qs h.0, replies_order qs h.1)

from_test : (g : Bool) (t : ℕ) (p q : Packet) (x y : List Recorded) → t ≤ p.start → t ≤ q.start → From t (cond g (sent p ∷ x) (got q ∷ y))
from_test true t p q x y h k = h
from_test false t p q x y h k = k

merge_from : (t : ℕ) (ps qs : List Packet) → FromP t ps → FromP t qs → From t (merge ps qs)
merge_from t [] qs h k = replies_from t qs k
merge_from t (p ∷ ps) [] h k = h
merge_from t (p ∷ ps) (q ∷ qs) h k = from_test (leb p.start q.start) t p q (merge ps (q ∷ qs)) (merge (p ∷ ps) qs) h k

order_test : (g : Bool) (p q : Packet) (x y : List Recorded) → (g ≡ true → From p.start x) → (g ≡ false → From q.start y) → InOrder x → InOrder y
    → InOrder (cond g (sent p ∷ x) (got q ∷ y))
order_test true p q x y h k m n = (h refl, m)
order_test false p q x y h k m n = (k refl, n)

le_of : (a b : ℕ) → leb a b ≡ false → b ≤ a
le_of a b g = let h : b < a = leb-false a b g in omega arith

pub merge_order : (ps qs : List Packet) → InOrderP ps → InOrderP qs → InOrder (merge ps qs)
merge_order [] qs h k = replies_order qs k
merge_order (p ∷ ps) [] h k = (merge_from p.start ps [] h.0 tt, merge_order ps [] h.1 tt)
merge_order (p ∷ ps) (q ∷ qs) h k =
    order_test (leb p.start q.start) p q (merge ps (q ∷ qs)) (merge (p ∷ ps) qs)
    (λ g. merge_from p.start ps (q ∷ qs) h.0 (leb-true p.start q.start g))
    (λ g. merge_from q.start (p ∷ ps) qs (le_of p.start q.start g) k.0)
    (merge_order ps (q ∷ qs) h.1 k)
    (merge_order (p ∷ ps) qs h k.1)

-- the packets of two whole captures whose times rise
risen : (ts bs : List ℕ) → is_rising ts ≡ true → InOrderP (packets ts bs)
unfolding is_rising
risen [] bs h = tt
risen (t ∷ ts) bs h = packets_order t ts bs (then_rest (ltb t 0) (rises_from t ts) h)

pub shown_order : (cs cts rs rts : List ℕ) → is_rising cts ≡ true → is_rising rts ≡ true → InOrder (left_at cs cts rs rts outset)
unfolding left_at
shown_order cs cts rs rts h k = merge_order (packets cts cs) (packets rts rs) (risen cts cs h) (risen rts rs k)
