-- Status packets: one reads back as its parts, an accepted one is the one of its parts, and a changed one is never good.
use Prim.Native.Nat.{ℕ, suc, ◌+◌, ◌-◌, ◌≤◌}
use Rattle.std.specs.Prelude.{Ok, Err}
use mathlib.Core.Path.{◌≡◌, refl, ap, ◌∙◌}
use mathlib.Core.Bool.{Bool, true, false, cond}
use mathlib.Core.List.{List, [], ◌∷◌}
use native.Mathlib.Omega.{arith}
use lib.Dec.{ltb}
use lib.ListN.{length, get_or, take, drop}
use lib.Seq.{take-append_seam}
use borrow.Author.Tests.{le-ltb, ltb-false}
use Rattle.buffer.specs.Sum.{sum_of, with_sum, ends_in_sum}
use Rattle.status.specs.Status.{status_packet, status_read, items_part, T, most_reply, cleared, judge_of}
use Rattle.buffer.specs.Change.{Altered}
use Rattle.wire.specs.declared.refusal.Refusal.{Refusal}
use Rattle.wire.specs.declared.refusal.Refusal.TheVariants.{Short, Long, Sum}
use Rattle.status.specs.declared.Answer.TheVariants.{Silent}
use Rattle.wire.proofs.Choice.{chose_first, chose_second}
use Rattle.wire.proofs.Impossible.{impossible}
use Rattle.buffer.proofs.Sums.{length_with_sum, with_sum_ends, ends_shape, changed_length, changed_breaks}

pub status_length : (b : ℕ) (d : List ℕ) → length (status_packet b d) ≡ 2 + length d
status_length b d = omega (arith, length_with_sum (b ∷ d))

-- ---- reading

-- a status packet of the right length, by its sum
pub whole : (s : List ℕ) (k : ℕ) (t : Bool) → length s ≡ 2 + k → ends_in_sum s ≡ t → status_read s k ≡ cond t (Ok (get_or s 0 0)) (Err Sum)
unfolding status_read
whole s k t n e = simp (le-ltb (length s) (2 + k) (omega arith), le-ltb (2 + k) (length s) (omega arith), e)

-- a status packet reads back as its status byte
pub packet_reads : (b : ℕ) (d : List ℕ) → status_read (status_packet b d) (length d) ≡ Ok b
packet_reads b d = whole (status_packet b d) (length d) true (status_length b d) (with_sum_ends (b ∷ d))

-- and its items
pub packet_items : (b : ℕ) (d : List ℕ) → items_part (status_packet b d) ≡ d
unfolding items_part
packet_items b d =
    let k : length (status_packet b d) - 2 ≡ length d = omega (arith, status_length b d) in
    rw k (take-append_seam d (sum_of (b ∷ d) ∷ []))

refused_not : (why : Refusal) (b : ℕ) → Err why ≡ Ok b → ⊥
refused_not why b e = impossible cc

pub record Accepted (s : List ℕ) (k b : ℕ) : Type 0 where
  pub size : length s ≡ 2 + k
  pub ends : ends_in_sum s ≡ true
  pub first : get_or s 0 0 ≡ b

pub accepted : (s : List ℕ) (k b : ℕ) → status_read s k ≡ Ok b → Accepted s k b
unfolding status_read
accepted s k b e =
    let t1 = chose_second (ltb (length s) (2 + k)) e (refused_not Short b) in
    let t2 = chose_second (ltb (2 + k) (length s)) t1.1 (refused_not Long b) in
    let t3 = chose_first (ends_in_sum s) t2.1 (refused_not Sum b) in
    record { size = omega (arith, ltb-false); ends = t3.0; first = cc t3.1 }

first_then : (s : List ℕ) (k : ℕ) → length s ≡ 2 + k → take (suc k) s ≡ get_or s 0 0 ∷ take k (drop 1 s)
first_then [] k e = absurd (omega arith)
first_then (x ∷ s) k e = refl

-- an accepted status packet is the one of its parts
pub accepted_packet : (s : List ℕ) (k b : ℕ) → status_read s k ≡ Ok b → s ≡ status_packet b (items_part s)
unfolding items_part
accepted_packet s k b e =
    let a = accepted s k b e in
    let n : length s - 2 ≡ k = omega (arith, a.size) in
    let m : length s - 1 ≡ suc k = omega (arith, a.size) in
    let q : take (length s - 1) s ≡ b ∷ take (length s - 2) (drop 1 s) = rw (m, n) (first_then s k a.size ∙ cc a.first) in
    ends_shape s a.ends ∙ ap (λ (l : List ℕ). with_sum l) q

-- one byte changed: wrong sum
pub altered_reads : (s t : List ℕ) (k b : ℕ) → status_read s k ≡ Ok b → Altered s t → status_read t k ≡ Err Sum
altered_reads s t k b e d =
    let a = accepted s k b e in
    whole t k false (changed_length d.change ∙ a.size) (changed_breaks d.change a.ends)

-- ---- the host's judgement

-- a status packet of at most T item bytes is good, and judged by its status byte
pub judged_packet : (b : ℕ) (d : List ℕ) → length d ≤ T → judge_of (status_packet b d) ≡ cleared b
unfolding judge_of
judged_packet b d h =
    let n = status_length b d in
    simp (le-ltb (length (status_packet b d)) 2 (omega arith), le-ltb most_reply (length (status_packet b d)) (omega arith), with_sum_ends (b ∷ d))

silent_unless : (s t : Bool) → cond s Silent (cond t Silent Silent) ≡ Silent
silent_unless true t = refl
silent_unless false true = refl
silent_unless false false = refl

-- what doesn't end in its sum is silence
pub judged_broken : (s : List ℕ) → ends_in_sum s ≡ false → judge_of s ≡ Silent
unfolding judge_of
judged_broken s e = rw e (silent_unless (ltb (length s) 2) (ltb most_reply (length s)))

-- a reply with one byte changed is never good
pub judged_altered : (b : ℕ) (d t : List ℕ) → Altered (status_packet b d) t → judge_of t ≡ Silent
judged_altered b d t a = judged_broken t (changed_breaks a.change (with_sum_ends (b ∷ d)))
