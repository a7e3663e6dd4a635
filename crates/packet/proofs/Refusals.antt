-- What a packet is refused for: by the frame 1 or 2, by reading 4 too; never 3, whatever follows it.
use Rattle.std.proofs.Common.{◌≡◌, ℕ, Bool, true, false, cond, not, eqb, ltb, List, length, get_or, take, refl, ◌∙◌, Result, Ok, Err}
use Rattle.packet.specs.declared.Framed.{Framed}
use Rattle.wire.specs.declared.refusal.Refusal.{Refusal}
use Rattle.wire.specs.declared.refusal.Refusal.TheVariants.{Short, Header, Long, Sum}
use Rattle.wire.proofs.Impossible.{impossible}
use Rattle.packet.specs.Packet.{end_of, parts_of, frame_of, is_intact, checked, read_of}

pub data Unframed : Refusal → Type 0 where
  short : Unframed Short
  header : Unframed Header

pub data Misread : Refusal → Type 0 where
  unframed : {why : Refusal} → Unframed why → Misread why
  sum : Misread Sum

pub frame_refuses : (s : List ℕ) (why : Refusal) → frame_of s ≡ Err why → Unframed why
unfolding frame_of
frame_refuses s why e = go (ltb (length s) 1) (not (eqb (get_or s 0 0) 0xAA)) (ltb (length s) 4) (ltb (length s) (end_of s)) e
  where
    go : (t u v w : Bool) → cond t (Err Short) (cond u (Err Header) (cond v (Err Short) (cond w (Err Short) (parts_of s)))) ≡ Err why → Unframed why
    go true u v w e = let z : Short ≡ why = cc in rw z at short
    go false true v w e = let z : Header ≡ why = cc in rw z at header
    go false false true w e = let z : Short ≡ why = cc in rw z at short
    go false false false true e = let z : Short ≡ why = cc in rw z at short
    go false false false false e = impossible cc

pub read_refuses : (s : List ℕ) (why : Refusal) → read_of s ≡ Err why → Misread why
unfolding read_of
read_refuses s why e = by_frame (frame_of s) refl e
  where
    by_sum : (t : Bool) (f : Result Framed Refusal) → (f ≡ Err why → ⊥) → cond t f (Err Sum) ≡ Err why → Misread why
    by_sum true f n e = absurd (n e)
    by_sum false f n e = let z : Sum ≡ why = cc in rw z at sum

    by_frame : (f : Result Framed Refusal) → frame_of s ≡ f → checked s f ≡ Err why → Misread why
    by_frame (Err w) r e = unframed (frame_refuses s why (r ∙ e))
    by_frame (Ok f) r e = by_sum (is_intact (take f.end s)) (Ok f) (λ x. impossible cc) e

not_long : {why : Refusal} → Misread why → why ≡ Long → ⊥
not_long (unframed short) e = impossible cc
not_long (unframed header) e = impossible cc
not_long sum e = impossible cc

-- "accept what follows"
pub frame_never_long : (s : List ℕ) → frame_of s ≡ Err Long → ⊥
frame_never_long s e = not_long (unframed (frame_refuses s Long e)) refl

pub read_never_long : (s : List ℕ) → read_of s ≡ Err Long → ⊥
read_never_long s e = not_long (read_refuses s Long e) refl
