-- A small recording: two Nops, the first one answered; a gap of exactly 2 ms parts, one of 1 ms doesn't; at equal times the command is first.
use Prim.Native.Nat.{ℕ}
use mathlib.Core.Path.{◌≡◌, refl}
use mathlib.Core.List.{List, [], ◌∷◌}
use Rattle.capture.specs.Steps.{sent, got, outset, left_at}

cs : List ℕ
cs = 0xAA ∷ 0x01 ∷ 0x0E ∷ 0x0F ∷ 0xAA ∷ 0x02 ∷ 0x0E ∷ 0x10 ∷ []

cts : List ℕ
cts = 0 ∷ 1 ∷ 1 ∷ 2 ∷ 4 ∷ 5 ∷ 6 ∷ 7 ∷ []

rs : List ℕ
rs = 0x00 ∷ 0x00 ∷ []

rts : List ℕ
rts = 4 ∷ 5 ∷ []

shown : left_at cs cts rs rts outset
    ≡ sent (record { start = 0; bytes = 0xAA ∷ 0x01 ∷ 0x0E ∷ 0x0F ∷ [] })
    ∷ sent (record { start = 4; bytes = 0xAA ∷ 0x02 ∷ 0x0E ∷ 0x10 ∷ [] })
    ∷ got (record { start = 4; bytes = 0x00 ∷ 0x00 ∷ [] })
    ∷ []
unfolding left_at cs cts rs rts
shown = refl
