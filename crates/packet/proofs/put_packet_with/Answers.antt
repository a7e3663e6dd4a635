-- Header, address and command byte by stores, the data by a copy, the sum behind them.
use Rattle.std.proofs.Common.{◌≡◌, ℕ, ◌+◌, ◌%◌, ◌≤◌, List, [], ◌∷◌, ◌++◌, length, drop, set, arith}
use lib.Seq.{sets}
use Rattle.buffer.specs.Sum.{total, sum_of}
use Rattle.buffer.specs.Buffer.{put_of}
use Rattle.buffer.proofs.Writing.{laid}
use Rattle.packet.specs.Build.{packet_with}
use Rattle.packet.proofs.put_packet_with.Goals as goal

laid_out : (a h u : ℕ) (d out o : List ℕ) → u ≡ sum_of d → 4 + length d ≤ length out → o ≡ put_of (sets out 0 (0xAA ∷ a ∷ h ∷ [])) 3 d
    → set o (3 + length d) (((a + h) % 256 + u) % 256) ≡ packet_with a h d ++ drop (4 + length d) out
unfolding total
laid_out a h u d out o eu fits e =
    let s : ((a + h) % 256 + u) % 256 ≡ sum_of (a ∷ h ∷ d) = omega arith in
    rw s (laid (0xAA ∷ a ∷ h ∷ []) d out o _ (4 + length d) e (omega arith) fits)

pub returns : goal.returns
returns c = laid_out _ _ _ _ _ _ c.sum.ensures c.requires c.put.ensures
