-- Refusals by tests.
use mathlib.Core.Bool.{Bool}
use Rattle.std.specs.Prelude.{Err}
use mathlib.Core.Path.{◌≡◌, refl}
use mathlib.Core.List.{List, [], ◌∷◌}
use Rattle.wire.specs.declared.refusal.Refusal.{Refusal}
use Rattle.sending.specs.Sending.{refusing}

-- a refusal stays, whatever is tested behind it
pub stays_refused : (l : List (Bool × Refusal)) (why : Refusal) → refusing (Err why) l ≡ Err why
stays_refused [] why = refl
stays_refused (t ∷ l) why = stays_refused l why
