-- The packet, of `4 + n` bytes, has room or not.
use Rattle.std.proofs.Common.{◌≡◌, ℕ, ◌+◌, ◌<◌, ◌≤◌, List, ◌++◌, length, drop, arith, le-ltb, Ok, Err}
use Rattle.wire.specs.Numbers.{number_by}
use Rattle.wire.specs.Promise.{Lending}
use Rattle.packet.specs.Build.{packet_of, build_of}
use Rattle.wire.specs.declared.refusal.Refusal.TheVariants.{Room}
use Rattle.packet.proofs.Packets.{built_length}
use Rattle.buffer.proofs.Writing.{no_room, has_room_lem}
use Rattle.packet.proofs.build.Goals as goal

module _ (a k : ℕ) (d out : List ℕ) (few : length d ≤ 15) (small : k ≤ 15) where
  short : length out < 4 + length d → Lending number_by (Err Room) out (build_of a k d out)
  unfolding build_of
  short h = rw (le-ltb 15 (length d) few, le-ltb 15 k small) (no_room (packet_of a k d) out (omega (arith, built_length a k d)))

  fits : (o : List ℕ) → 4 + length d ≤ length out → o ≡ packet_of a k d ++ drop (4 + length d) out → Lending number_by (Ok (4 + length d)) o (build_of a k d out)
  unfolding build_of
  fits o h e = rw (le-ltb 15 (length d) few, le-ltb 15 k small) (has_room_lem (packet_of a k d) out (4 + length d) o (built_length a k d) h e)

pub returns-then-out-n : goal.returns-then-out-n
returns-then-out-n c = search short

pub returns : goal.returns
returns c = search fits
