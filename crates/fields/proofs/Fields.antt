-- A room and the buffer that has it.
use Rattle.std.proofs.Common.{◌≡◌, ℕ, ◌≤◌, Bool, true, false, cond, leb, List, length, refl, arith, leb-true}
use Rattle.std.proofs.lemmas.List.{length-replicate}
use Rattle.fields.specs.Lending.{fields_filled, room_field, room_of}

-- a room is within the most
pub room_within : (s : List ℕ) (most r : ℕ) → r ≡ room_of s most → r ≤ most
room_within s most r = within (leb (room_field s most) most) refl where
  within : (t : Bool) → leb (room_field s most) most ≡ t → r ≡ cond t (room_field s most) 0 → r ≤ most
  within true h e = omega (arith, leb-true (room_field s most) most h)
  within false h e = omega arith

-- so the largest buffer has it
pub room_fits : (s b : List ℕ) (most r : ℕ) → b ≡ fields_filled most → r ≡ room_of s most → r ≤ length b
unfolding fields_filled
room_fits s b most r e f = rw (e, length-replicate {A = ℕ} most 0x55) (room_within s most r f)
