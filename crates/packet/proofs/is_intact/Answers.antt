-- Of no bytes there are none behind the header.
use Rattle.std.proofs.Common.{◌≡◌, ℕ, ◌<◌, false, List, [], ◌∷◌, length, refl, arith}
use Rattle.buffer.specs.Sum.{ends_in_sum}
use Rattle.packet.specs.Packet.{is_intact}
use Rattle.packet.proofs.is_intact.Goals as goal

none : (s : List ℕ) → length s < 1 → false ≡ is_intact s
unfolding is_intact ends_in_sum
none [] h = refl
none (x ∷ s) h = absurd (omega arith)

pub returns-then-s-lt1 : goal.returns-then-s-lt1
returns-then-s-lt1 c = search none
