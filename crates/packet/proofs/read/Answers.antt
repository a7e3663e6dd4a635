-- The frame decides, and then the sum of the bytes up to its end.
use Rattle.std.proofs.Common.{◌≡◌, ℕ, Bool, true, false, List, length, take, sym, ◌∙◌, length-take-le, Ok, Err}
use Rattle.packet.specs.declared.Framed.{Framed}
use Rattle.wire.specs.Numbers.{number_by}
use Rattle.wire.specs.Promise.{Promise, promised}
use Rattle.packet.specs.Packet.{frame_of, is_intact, read_of}
use Rattle.wire.specs.declared.refusal.Refusal.{Refusal}
use Rattle.wire.specs.declared.refusal.Refusal.TheVariants.{Sum}
use Rattle.packet.proofs.Packets.{framing}
use Rattle.std.proofs.lemmas.Result.{err_from_is_err_and}
use Rattle.packet.proofs.read.Goals as goal

module _ (s : List ℕ) where
  refused : (why : Refusal) → Promise number_by (Err why) (frame_of s) → Err why ≡ read_of s
  unfolding read_of
  refused why p = rw (sym p.answer)

  module _ (f : Framed) (p : Promise number_by (Ok f) (frame_of s)) where
    own : f.end ≡ length (take f.end s)
    own = sym (length-take-le f.end s (framing s f.address f.command f.end (sym p.answer)).reaches)

    module _ (ok : Bool) (i : ok ≡ is_intact (take f.end s)) where
      intact : ok ≡ true → Promise number_by (Ok f) (read_of s)
      unfolding read_of
      intact t = promised (rw (sym p.answer, sym i ∙ t))

      spoilt : ok ≡ false → Promise number_by (Err Sum) (read_of s)
      unfolding read_of
      spoilt t = promised (rw (sym p.answer, sym i ∙ t))

pub slice_bounds-is_intact-end : goal.slice_bounds-is_intact-end
slice_bounds-is_intact-end c = own _ _ c.in_ok-frame.ensures

pub returns-then-not-is_intact : goal.returns-then-not-is_intact
returns-then-not-is_intact c = search (spoilt, c.in_ok-frame.ensures)

pub returns : goal.returns
returns c = search (intact, c.in_ok-frame.ensures)

pub returns-in_err-frame : goal.returns-in_err-frame
returns-in_err-frame c = let p = err_from_is_err_and c.from_residual.result c.from_residual.ensures.1 in rw (p.1, p.2) (promised (refused _ _ c.in_err-frame.ensures))
