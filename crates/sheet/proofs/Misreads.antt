-- A list that isn't exported is refused with 1, 2 or 4, and no other: as reading refuses the first packet that doesn't read.
use Prim.Native.Nat.{ℕ}
use Rattle.std.specs.Prelude.{Err}
use mathlib.Core.List.{List}
use mathlib.Core.Path.{◌≡◌, ap, ◌∙◌}
use Rattle.wire.specs.declared.refusal.Refusal.{Refusal}
use Rattle.wire.proofs.Impossible.{impossible}
use Rattle.packet.proofs.Refusals.{Misread, read_refuses}
use Rattle.sheet.specs.Sheet.{Made, made, fault}
use Rattle.sheet.specs.Packets.{Found, packets_of, ahead, sheet_of}
use Rattle.sheet.specs.Form.{ListForm, none, then, not}
use Rattle.sheet.proofs.Lists.{list_formed}

form_misread : {s : List ℕ} {f : Found} → ListForm s f → (why : Refusal) → sheet_of f ≡ fault why → Misread why
unfolding sheet_of
form_misread none why e = impossible cc
form_misread (not {s = s} {why = w} h r) why e = let z : w ≡ why = cc in read_refuses s why (r ∙ ap Err z)
form_misread (then {p = p} {f = f} h l) why e = by_rest (sheet_of f) (λ r. form_misread l why r) e
  where
    by_rest : (m : Made Refusal) → (m ≡ fault why → Misread why) → ahead p m ≡ fault why → Misread why
    by_rest (made t) ih e = impossible cc
    by_rest (fault w) ih e = let z : w ≡ why = cc in ih (ap fault z)

pub misread : (s : List ℕ) (why : Refusal) → sheet_of (packets_of s) ≡ fault why → Misread why
misread s why e = form_misread (list_formed s) why e
