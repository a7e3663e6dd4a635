-- The data part of bytes holds bytes, and a refused builder leaves the buffer as it stood.
use Rattle.std.proofs.Common.{ℕ, ltb, List, length, drop}
use Rattle.buffer.specs.Change.{AllBytes}
use Rattle.wire.specs.declared.refusal.Refusal.TheVariants.{Range}
use Rattle.packet.specs.Packet.{count_of, data_part}
use Rattle.packet.specs.Build.{packet_of, build_of}
use Rattle.buffer.proofs.Bytes.{take_bytes, drop_bytes}
use Rattle.buffer.proofs.Refusals.{Spares, written_spares, test_spares}

pub data_bytes : (s : List ℕ) → AllBytes s → AllBytes (data_part s)
unfolding data_part
data_bytes s h = take_bytes (count_of s) (drop 3 s) (drop_bytes 3 s h)

pub build_spares : (a c : ℕ) (d out : List ℕ) → Spares out (build_of a c d out)
unfolding build_of
build_spares a c d out =
    test_spares (ltb 15 (length d)) Range out _ (test_spares (ltb 15 c) Range out _ (written_spares (packet_of a c d) out))
