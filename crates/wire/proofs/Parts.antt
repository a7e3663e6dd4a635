-- The part at a slice's end holds nothing, and what `Part` says of a part admits one machine value only, pointer and count.
use Prim.Native.Nat.{ℕ, ◌-◌}
use mathlib.Core.List.{List, []}
use mathlib.Core.Path.{◌≡◌, sym, ◌∙◌}
use lib.ListN.{length, take, drop}
use lib.Seq.{take-nil, drop-length}
use denote.Ref.{Bor}
use denote.Slice.{shr_slice_vals}
use Rattle.wire.specs.Part.{Part}

pub none_left : (s : List ℕ) → take (length s - length s) (drop (length s) s) ≡ []
none_left s = rw (drop-length s) (take-nil (length s - length s))

-- the same position, the same bytes, the same machine value
pub record SamePart (r r' : Bor (List ℕ)) : Type 0 where
  pub block : r.ref_ptr.0 ≡ r'.ref_ptr.0
  pub offset : r.ref_ptr.1 ≡ r'.ref_ptr.1
  pub bytes : r.now ≡ r'.now
  pub machine : shr_slice_vals r ≡ shr_slice_vals r'

pub one_part_lem : {s : Bor (List ℕ)} {from : ℕ} {bytes : List ℕ} {r r' : Bor (List ℕ)} → Part s from bytes r → Part s from bytes r' → SamePart r r'
one_part_lem p q =
    record {
      block = p.block ∙ sym q.block;
      offset = p.offset ∙ sym q.offset;
      bytes = p.holds ∙ sym q.holds;
      machine = cc;
    }

-- a contract that admits one part only, as `OneResult` has it of a value
abbrev pub OnePart : {K : Type 0} {A S : K → Type 0} → ((κs : K) → A κs → Bor (List ℕ) → S κs → Type 0) → Type 0
OnePart {K} {A} {S} post = (κs : K) (a : A κs) (r r' : Bor (List ℕ)) (s s' : S κs) → post κs a r s → post κs a r' s' → SamePart r r'
