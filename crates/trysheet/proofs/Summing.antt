-- What the sums of some bytes need, in the form in which the code gives it.
use Rattle.std.proofs.Common.{◌≡◌, ℕ, List, [], ◌∷◌, refl}
use Rattle.std.specs.List.{fold}
use Rattle.trysheet.specs.declared.sums.Sums.{Sums}
use Rattle.trysheet.specs.Sums.{sums_with, sums_from}

-- byte by byte
pub folded : (s : Sums) (l : List ℕ) → fold sums_with s l ≡ sums_from s l
unfolding sums_from
folded s [] = refl
folded s (x ∷ l) = folded (sums_with s x) l
