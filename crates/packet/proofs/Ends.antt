-- Packets back to back, gone through one by one: each isn't empty and lies within the list, so that the next begins further on, where it ends.
use Rattle.std.proofs.Common.{◌≡◌, ℕ, ◌+◌, ◌-◌, ◌^◌, ◌<◌, ◌≤◌, List, length, drop, sym, ap, ◌∙◌, arith, length-drop, Result, Ok}
use Rattle.wire.specs.declared.refusal.Refusal.{Refusal}
use Rattle.packet.specs.declared.Framed.{Framed}
use Rattle.wire.specs.Numbers.{number_by}
use Rattle.wire.specs.Promise.{Promise}
use Rattle.wire.specs.declared.address.Address.{Address}
use Rattle.packet.specs.Packet.{frame_of, read_of, whole}
use Rattle.packet.proofs.Packets.{framing, read_says}

-- some bytes begin with a packet that ends at n
pub record EndsAt (s : List ℕ) (n : ℕ) : Type 0 where
  pub some : 4 ≤ n
  pub reaches : n ≤ length s

framed_ends : (s : List ℕ) (a : Address) (c n : ℕ) → frame_of s ≡ whole a c n → EndsAt s n
framed_ends s a c n e = let f = framing s a c n e in record { some = omega (arith, f.end); reaches = f.reaches }

-- as `frame` and `read` find it
pub by_frame : (s : List ℕ) (r : Result Framed Refusal) (f : Framed) → Promise number_by r (frame_of s) → r ≡ Ok f → EndsAt s f.end
by_frame s r f p e = framed_ends s f.address f.command f.end (sym p.answer ∙ e)

pub by_read : (s : List ℕ) (r : Result Framed Refusal) (f : Framed) → Promise number_by r (read_of s) → r ≡ Ok f → EndsAt s f.end
by_read s r f p e = framed_ends s f.address f.command f.end (read_says s f.address f.command f.end (sym p.answer ∙ e)).0

-- at a position of the list
module _ (s d : List ℕ) (at n : ℕ) (ed : d ≡ drop at s) (h : EndsAt d n) where
  pub end_within : at + n ≤ length s
  end_within =
      let k : n ≤ length s - at = omega (arith, h.reaches, ap (λ (l : List ℕ). length l) ed, length-drop at s) in
      omega (arith, h.some)

  -- so the end is a machine number where the list's length is
  pub end_fits : length s < 2 ^ 64 → at + n < 2 ^ 64
  end_fits k = omega (arith, end_within)

  pub end_on : at < at + n
  end_on = omega (arith, h.some)

  pub end_less : length s - (at + n) < length s - at
  end_less = omega (arith, h.some, end_within)

  -- and there are no more packets than bytes
  pub end_count : (k : ℕ) → k ≤ at → k + 1 ≤ at + n
  end_count k l = omega (arith, h.some)
