-- Document 02, 3: "15 where times and bytes differ in number, then 16 where a time is less than the one before in its capture".
use Rattle.std.specs.Prelude.{ℕ, Bool, true, false, cond, List, [], ◌∷◌, length, ltb, eqb, Result, Ok, Err}
use Rattle.wire.specs.declared.refusal.Refusal.{Refusal}
use Rattle.wire.specs.declared.refusal.Refusal.TheVariants.{Uneven, Backward}

-- no time is less than the one before, t the one before the first
abbrev pub rises_from : ℕ → List ℕ → Bool
rises_from t [] = true
rises_from t (u ∷ ts) = cond (ltb u t) false (rises_from u ts)

-- no time is less than 0, so the first may be any
unfoldable pub is_rising : List ℕ → Bool
is_rising ts = rises_from 0 ts

-- times and bytes of a capture are as many
abbrev pub is_even : List ℕ → List ℕ → Bool
is_even bs ts = eqb (length bs) (length ts)

-- 15 in either capture, then 16 in either
unfoldable pub check_of : List ℕ → List ℕ → List ℕ → List ℕ → Result (Unit {0}) Refusal
check_of cs cts rs rts =
    cond (is_even cs cts)
    (cond (is_even rs rts)
    (cond (is_rising cts)
    (cond (is_rising rts) (Ok tt) (Err Backward))
    (Err Backward))
    (Err Uneven))
    (Err Uneven)
