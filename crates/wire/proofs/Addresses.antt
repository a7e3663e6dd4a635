-- The byte comes back, the ranges hold, and an individual address and a group address are never taken for each other.
use Prim.Native.Nat.{ℕ, ◌<◌, ◌≤◌}
use mathlib.Core.Bool.{Bool, true, false, cond}
use mathlib.Core.Path.{◌≡◌, refl, sym, ap}
use borrow.Author.Tests.{ltb-true, ltb-false, le-leb, le-ltb, leb-true}
use Rattle.wire.specs.Address.{individual_in_range, address_of, byte_of, in_range}
use Rattle.wire.specs.declared.address.Individual.{Individual}
use Rattle.wire.specs.declared.address.Group.{Group}
use Rattle.wire.specs.declared.address.Address.{Address}
use Rattle.wire.specs.declared.address.Address.TheVariants as address
use Rattle.wire.proofs.Choice.{chose_first, chose_second}
use Rattle.wire.proofs.Impossible.{impossible}

-- the byte comes back, whichever of the two it names
byte_back : (t : Bool) (b : ℕ) → byte_of (cond t (address.Individual (record { 0 = b })) (address.Group (record { 0 = b }))) ≡ b
byte_back true b = refl
byte_back false b = refl

pub byte_address : (b : ℕ) → byte_of (address_of b) ≡ b
byte_address b = byte_back (individual_in_range b) b

-- no address is both
pub apart : (i : Individual) (g : Group) → address.Individual i ≡ address.Group g → ⊥
apart i g e = impossible cc

-- a byte that names an individual address is that address, below 0x80
pub individual_is : (b : ℕ) (i : Individual) → address_of b ≡ address.Individual i → (i.0 ≡ b) × (b < 0x80)
individual_is b i e =
    let t = chose_first (individual_in_range b) e (λ z. apart i (record { 0 = b }) (sym z)) in
    (sym (ap byte_of t.1), ltb-true b 0x80 t.0)

-- a byte that names a group is that group, 0x80 or more
pub group_is : (b : ℕ) (g : Group) → address_of b ≡ address.Group g → (g.0 ≡ b) × (0x80 ≤ b)
group_is b g e =
    let t = chose_second (individual_in_range b) e (apart (record { 0 = b }) g) in
    (sym (ap byte_of t.1), ltb-false b 0x80 t.0)

-- an address of its range comes back from its byte
pub address_back : (a : Address) → in_range a ≡ true → address_of (byte_of a) ≡ a
address_back (address.Individual i) h = rw h
address_back (address.Group g) h = rw (le-ltb g.0 0x80 (leb-true 0x80 g.0 h))

-- an address that is read from a byte is of its range
named_in_range : (t : Bool) (b : ℕ) → individual_in_range b ≡ t → in_range (cond t (address.Individual (record { 0 = b })) (address.Group (record { 0 = b }))) ≡ true
named_in_range true b h = h
named_in_range false b h = le-leb 0x80 b (ltb-false b 0x80 h)

pub address_in_range : (b : ℕ) → in_range (address_of b) ≡ true
address_in_range b = named_in_range (individual_in_range b) b refl
