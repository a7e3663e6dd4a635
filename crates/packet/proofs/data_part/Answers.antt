-- The part that is cut off is `count` bytes from the fourth on, or as many as there are; without a fourth byte it is none, at the end.
use Rattle.std.proofs.Common.{◌≡◌, ℕ, ◌+◌, ◌-◌, ◌<◌, List, [], length, take, drop, sym, ap, ◌∙◌, arith, length-drop, drop_of_length-le, take_all, rules}
use native.Mathlib.Nat.{add-sub_cancel_left}
use lib.Seq.{take-nil}
use Rattle.wire.proofs.Parts.{none_left}
use Rattle.packet.specs.Packet.{count_of, data_part}
use Rattle.packet.proofs.data_part.Goals as goal

none : (s : List ℕ) → length s < 3 → [] ≡ data_part s
unfolding data_part
none s h = sym (ap (take (count_of s)) (drop_of_length-le s {i = 3} (omega arith)) ∙ take-nil (count_of s))

cut : (s : List ℕ) → length s < 3 + count_of s → take (length s - 3) (drop 3 s) ≡ data_part s
unfolding data_part
cut s h = take_all (length s - 3) (drop 3 s) (omega (arith, length-drop 3 s)) ∙ sym (take_all (count_of s) (drop 3 s) (omega (arith, length-drop 3 s)))

whole : (s : List ℕ) → take (3 + count_of s - 3) (drop 3 s) ≡ data_part s
unfolding data_part
whole s = rw add-sub_cancel_left

pub returns-then-s-lt3 : goal.returns-then-s-lt3
returns-then-s-lt3 c = search (none_left, none, rules)

pub returns-then-s-sum_at : goal.returns-then-s-sum_at
returns-then-s-sum_at c = search (cut, rules)

pub returns : goal.returns
returns c = search (whole, rules)
