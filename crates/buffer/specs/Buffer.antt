-- Document 01: "A packet sent or built goes to the start of the lent buffer, the rest stays".
use Rattle.std.specs.Prelude.{ℕ, ◌+◌, cond, List, ◌++◌, length, take, drop, nat_lt, Result, Ok, Err}
use Rattle.wire.specs.Promise.{Outcome}
use Rattle.wire.specs.Numbers.{done, number_of, number_by}
use Rattle.wire.specs.declared.refusal.Refusal.{Refusal}
use Rattle.wire.specs.declared.refusal.Refusal.TheVariants.{Room}

-- d from `at` on, if all of it has room there; the rest stays
unfoldable pub put_of : List ℕ → ℕ → List ℕ → List ℕ
put_of out at d = cond (nat_lt (length out) (at + length d)) out (take at out ++ d ++ drop (at + length d) out)

-- packet p at the start of the buffer, the rest stays
abbrev pub at_start : List ℕ → List ℕ → Outcome (Result ℕ Refusal) (List ℕ)
at_start p out = record { answer = Ok (length p); left = p ++ drop (length p) out }

-- a refusal leaves the buffer as it stood
abbrev pub refused : Refusal → List ℕ → Outcome (Result ℕ Refusal) (List ℕ)
refused why out = record { answer = Err why; left = out }

-- "output buffer too small", or written
unfoldable pub written : List ℕ → List ℕ → Outcome (Result ℕ Refusal) (List ℕ)
written p out = cond (nat_lt (length out) (length p)) (refused Room out) (at_start p out)
