-- The longest status packet has room, or the one under the mask is counted.
use Rattle.std.proofs.Common.{◌≡◌, ◌∙◌, ℕ, ◌≤◌, leb, sym, arith, le-leb}
use Rattle.wire.specs.declared.kind.Kind.{Kind}
use Rattle.status.specs.Status.{most_reply}
use Rattle.mask.specs.Mask.{size_of}
use Rattle.mask.proofs.Counts.{size_range}
use Rattle.reply.specs.Grown.{has_room}
use Rattle.reply.proofs.has_room.Goals as goal

longest : (k : Kind) (m room : ℕ) → most_reply ≤ room → leb most_reply room ≡ has_room k m room
longest k m room h = le-leb most_reply room h ∙ sym (le-leb (size_of k m) room (omega (arith, (size_range k m).1)))

pub returns-then-room-ge-MOST_REPLY : goal.returns-then-room-ge-MOST_REPLY
returns-then-room-ge-MOST_REPLY c = longest _ _ _ c.if-room-ge-MOST_REPLY.true
