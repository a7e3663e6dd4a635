-- Define Status in the manual of either kind: the bits of a mask, and a status packet read under a mask.
use Rattle.std.specs.Prelude.{ℕ, suc, ◌+◌, ◌/◌, ◌%◌, ◌^◌, Bool, cond, List, [], ◌∷◌, eqb, Result}
use Rattle.wire.specs.declared.refusal.Refusal.{Refusal}
use Rattle.wire.specs.declared.kind.Kind.{Kind}
use Rattle.status.specs.Status.{counts, status_read}

-- bit k of a mask
abbrev pub bit : ℕ → ℕ → Bool
bit k m = eqb (m / 2 ^ k % 2) 1

-- an item's count, if it is asked for
abbrev pub asked_count : Bool → ℕ → ℕ
asked_count t n = cond t n 0

-- how many bytes a mask asks for, by the counts from bit k on
abbrev pub count_from : ℕ → ℕ → List ℕ → ℕ
count_from k m [] = 0
count_from k m (n ∷ ns) = asked_count (bit k m) n + count_from (suc k) m ns

-- the length of a status packet under a mask, by the kind of node that it comes from: status byte, items, sum
unfoldable pub size_of : Kind → ℕ → ℕ
size_of k m = 2 + count_from 0 m (counts k)

-- "Reading a status packet under a mask": with as many item bytes as the mask asks for at that kind of node
unfoldable pub mask_read : Kind → ℕ → List ℕ → Result ℕ Refusal
mask_read k m s = status_read s (count_from 0 m (counts k))
