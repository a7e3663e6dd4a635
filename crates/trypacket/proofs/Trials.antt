-- What the exits of the functions of trypacket need, in the form in which the code gives it.
use Prim.Native.Nat.{ℕ, ◌-◌, ◌<◌, ◌≤◌}
use Rattle.packet.specs.declared.Framed.{Framed}
use Rattle.std.specs.Prelude.{Result, Ok, Err, ℕ}
use Rattle.wire.specs.Numbers.{number_by}
use mathlib.Core.Bool.{Bool, true, false, not}
use mathlib.Core.List.{List}
use mathlib.Core.Path.{◌≡◌, sym, ◌∙◌}
use native.Mathlib.Nat.{sub-zero}
use borrow.Author.Tests.{lt-ltb, le-ltb, not-true, not-false}
use native.Mathlib.Omega.{arith}
use lib.ListN.{length, get_or, take, drop}
use Rattle.wire.specs.Promise.{Promise, Lending}
use Rattle.wire.specs.Address.{byte_of}
use Rattle.wire.specs.declared.address.Address.{Address}
use Rattle.wire.specs.declared.kind.Kind.{Kind}
use Rattle.wire.specs.declared.refusal.Refusal.{Refusal}
use Rattle.packet.specs.Packet.{read_of, data_part, whole}
use Rattle.packet.specs.Build.{build_of}
use Rattle.packet.proofs.Packets.{most_end, read_says}
use Rattle.status.specs.Status.{items_part}
use Rattle.mask.specs.Mask.{mask_read}
use Rattle.fields.specs.declared.answer.Answer.{Answer}
use Rattle.fields.specs.Field.{fields_byte}
use Rattle.fields.specs.Kind.{is_kind, read_kind}
use Rattle.fields.specs.Lending.{most_room, filled_of, room_of, is_lending}
use Rattle.fields.specs.Answer.{fields_nothing, answer_put, answer_put_all, malformed_of, numbered_of}
use Rattle.trypacket.specs.Trial.{build_into, trypacket_build, trypacket_read, read_under, read_status}

-- what is built is shown
pub into_shown : (s d out left : List ℕ) (a c n : ℕ) (b : Result ℕ Refusal) (r : Answer) → a ≡ fields_byte s 1 → c ≡ fields_byte s 2 → d ≡ drop 3 s
    → Lending number_by b left (build_of a c d out) → n ≡ number_by b → r ≡ numbered_of n left → r ≡ build_into s out
unfolding build_into
into_shown s d out left a c n b r ea ec ed l en er = rw (er, en, l.answer, l.leaves, ea, ec, ed)

module _ (s : List ℕ) (t : Bool) (r : Answer) (e : t ≡ is_lending s 3 most_room) where
  -- a line that lends: the part of its buffer from 0 on
  pub built : (b : List ℕ) (n : ℕ) → t ≡ true → b ≡ filled_of → n ≡ room_of s most_room → r ≡ build_into s (take (n - 0) b) → r ≡ trypacket_build s
  unfolding trypacket_build
  built b n y eb en er = rw (sym e ∙ y, er, eb, en, sub-zero (room_of s most_room))

  -- and one that does not
  pub not_built : t ≡ false → r ≡ malformed_of → r ≡ trypacket_build s
  unfolding trypacket_build
  not_built y er = rw (sym e ∙ y, er)

-- where a packet ends is a byte
pub end_small : (s : List ℕ) (r : Result Framed Refusal) (f : Framed) → Promise number_by r (read_of s) → r ≡ Ok f → get_or s 2 0 < 256 → f.end < 256
end_small s r f p e h =
    let k = most_end s f.address f.command f.end (read_says s f.address f.command f.end (sym p.answer ∙ e)).0 h in
    omega arith

module _ (s : List ℕ) (f : Result Framed Refusal) (n : ℕ) (x₀ x₁ : Answer) (p : Promise number_by f (read_of s)) (en : n ≡ number_by f)
    (e₀ : x₀ ≡ fields_nothing) (e₁ : x₁ ≡ answer_put x₀ n) where
  -- the end and the parts of a packet
  pub read_whole : (g : Framed) (b : ℕ) (x₂ x₃ x₄ r : Answer) (d : List ℕ) → f ≡ Ok g → x₂ ≡ answer_put x₁ g.end → b ≡ byte_of g.address → x₃ ≡ answer_put x₂ b
      → x₄ ≡ answer_put x₃ g.command → d ≡ data_part s → r ≡ answer_put_all x₄ d → r ≡ trypacket_read s
  unfolding trypacket_read answer_put_all
  read_whole g b x₂ x₃ x₄ r d ef e₂ eb e₃ e₄ ed er = rw (sym p.answer ∙ ef, er, ed, e₄, e₃, eb, e₂, e₁, e₀, en, ef)

  -- the refusal alone
  pub read_refused : (why : Refusal) → f ≡ Err why → x₁ ≡ trypacket_read s
  unfolding trypacket_read answer_put_all
  read_refused why ef = rw (sym p.answer ∙ ef, e₁, e₀, en, ef)

module _ (s : List ℕ) (k : Kind) (m n : ℕ) (f : Result ℕ Refusal) (x₀ x₁ : Answer) (p : Promise number_by f (mask_read k m s)) (en : n ≡ number_by f)
    (e₀ : x₀ ≡ fields_nothing) (e₁ : x₁ ≡ answer_put x₀ n) where
  -- the parts of a status packet
  pub under_whole : (b : ℕ) (x₂ r : Answer) (d : List ℕ) → f ≡ Ok b → x₂ ≡ answer_put x₁ b → d ≡ items_part s → r ≡ answer_put_all x₂ d
      → r ≡ read_under k m s
  unfolding read_under answer_put_all
  under_whole b x₂ r d ef e₂ ed er = rw (sym p.answer ∙ ef, er, ed, e₂, e₁, e₀, en, ef)

  -- the refusal alone
  pub under_refused : (why : Refusal) → f ≡ Err why → x₁ ≡ read_under k m s
  unfolding read_under answer_put_all
  under_refused why ef = rw (sym p.answer ∙ ef, e₁, e₀, en, ef)

-- a line with no kind and mask
pub no_mask : (s : List ℕ) (r : Answer) → length s < 2 → r ≡ malformed_of → r ≡ read_status s
unfolding read_status
no_mask s r h e = rw (lt-ltb (length s) 2 h, e)

module _ (s : List ℕ) (b : ℕ) (t : Bool) (r : Answer) (h : 2 ≤ length s) (eb : b ≡ fields_byte s 0) (et : t ≡ is_kind b) where
  -- one whose kind is none
  pub no_kind : not t ≡ true → r ≡ malformed_of → r ≡ read_status s
  unfolding read_status
  no_kind y e = rw (le-ltb (length s) 2 h, ← eb, ← et, not-true t y, e)

  -- and one with both
  pub with_mask : (d : List ℕ) (m : ℕ) (k : Kind) → not t ≡ false → k ≡ read_kind b → m ≡ fields_byte s 1 → d ≡ drop 2 s → r ≡ read_under k m d → r ≡ read_status s
  unfolding read_status
  with_mask d m k y ek em ed er = rw (le-ltb (length s) 2 h, ← eb, ← et, not-false t y, er, ek, em, ed)
