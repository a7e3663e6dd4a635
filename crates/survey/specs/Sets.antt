-- Serves inner calls: how a delivery is done, which comes to what Delivery says. A set of nodes is a number: node i is in it exactly if its binary digit i, counted from the lowest, is 1.
use Rattle.std.specs.Prelude.{ℕ, zero, suc, ◌+◌, ◌-◌, ◌/◌, ◌%◌, ◌^◌, Bool, cond, List, [], ◌∷◌, ◌==◌, Option, Some, None}
use Rattle.std.specs.Int.Count.{count_trailing_zeros}

-- how many nodes a set has digits for
abbrev pub set_width : ℕ
set_width = 32

-- the node of digit `weight` joins, in so many digits
abbrev pub join_of : ℕ → ℕ → Bool → ℕ
join_of s weight joins = cond joins ((s + weight) % 2 ^ set_width) s

-- the lowest digit of a set that is 1; its width, past every chain, if it is empty
abbrev pub lowest_of : ℕ → ℕ
lowest_of s = count_trailing_zeros set_width s

-- the first of a set, if it has one
abbrev pub first_of : ℕ → Option ℕ
first_of s = cond (s == 0) None (Some (lowest_of s))

-- the set without it
abbrev pub without_first : ℕ → ℕ
without_first s = s - 2 ^ lowest_of s

-- of k nodes, the first of which has index i and the set's lowest digit, the indices of those in the set, in order
abbrev pub members_from : ℕ → ℕ → ℕ → List ℕ
members_from zero i s = []
members_from (suc k) i s = cond (s % 2 == 1) (i ∷ members_from k (suc i) (s / 2)) (members_from k (suc i) (s / 2))

-- of the nodes 0 to n - 1
abbrev pub members : ℕ → ℕ → List ℕ
members n s = members_from n 0 s
