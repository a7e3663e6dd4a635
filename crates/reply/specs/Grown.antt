-- Serves private contracts: how a reply is written, which comes to what Reply says. Document 02, request 5: "straight into the reply buffer, carrying the sum along". The sum stands behind what is written, and moves on with each item.
use Rattle.std.specs.Prelude.{◌≡◌, ℕ, ◌+◌, ◌%◌, Bool, List, [], ◌∷◌, length, nat_le, slice_index}
use Rattle.std.proofs.lemmas.List.Edits.{sets}
use Rattle.wire.specs.Promise.{Outcome}
use Rattle.wire.specs.declared.kind.Kind.{Kind}
use Rattle.mask.specs.Mask.{size_of}

-- the status packet of a node of that kind under a mask fits a buffer of so many bytes
abbrev pub has_room : Kind → ℕ → ℕ → Bool
has_room k m room = nat_le (size_of k m) room

-- the packet of no item, at the start of the buffer: its sum is the status byte itself, and stands at 1
abbrev pub reply_begin : ℕ → List ℕ → Outcome ℕ (List ℕ)
reply_begin b out = record { answer = 1; left = sets out 0 (b ∷ b ∷ []) }

-- "carrying the sum along": bytes, and behind them the 8-bit sum, carried on from s
abbrev pub carried_on : ℕ → List ℕ → List ℕ
carried_on s [] = s ∷ []
carried_on s (x ∷ d) = x ∷ carried_on ((s + x) % 256) d

-- d where the sum stood, from `end` on, and the sum, carried on over d, behind it, at r
pub record Grown (d : List ℕ) (end : ℕ) (out : List ℕ) (r : ℕ) (left : List ℕ) : Type 0 where
  pub behind : r ≡ end + length d
  pub bytes : left ≡ sets out end (carried_on (slice_index out end) d)
