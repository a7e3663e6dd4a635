-- Records that lie one behind the other in a line of the program `trials`, each as long as its own first bytes say: what KIND*n, NODE*n and ENTRY*31 have in common.
use Rattle.std.specs.Prelude.{ℕ, zero, suc, ◌+◌, Bool, true, ◌&&◌, List, [], ◌∷◌, drop}

-- what is left of a line from each of n records on
unfoldable pub records_from : (List ℕ → ℕ) → ℕ → List ℕ → List (List ℕ)
records_from long zero s = []
records_from long (suc n) s = s ∷ records_from long n (drop (long s) s)

-- how many bytes they have
unfoldable pub records_length : (List ℕ → ℕ) → ℕ → List ℕ → ℕ
records_length long zero s = 0
records_length long (suc n) s = long s + records_length long n (drop (long s) s)

-- each of them is of its form
unfoldable pub all_are : (List ℕ → Bool) → List (List ℕ) → Bool
all_are is [] = true
all_are is (r ∷ rs) = is r && all_are is rs

-- an answer with each of them more, in order
unfoldable pub put_each : {A B : Type 0} → (A → B → A) → A → List B → A
put_each put a [] = a
put_each put a (x ∷ xs) = put_each put (put a x) xs
