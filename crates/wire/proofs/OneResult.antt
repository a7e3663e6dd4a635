-- A contract that admits one result only.
use mathlib.Core.Path.{◌≡◌}

-- `post κs a r s`: the lifetimes, the arguments at entry, the result, the parameters at exit, as a function's `Reads` has them
abbrev pub OneResult : {K : Type 0} {A R S : K → Type 0} → ((κs : K) → A κs → R κs → S κs → Type 0) → Type 0
OneResult {K} {A} {R} {S} post = (κs : K) (a : A κs) (r r' : R κs) (s s' : S κs) → post κs a r s → post κs a r' s' → r ≡ r'
