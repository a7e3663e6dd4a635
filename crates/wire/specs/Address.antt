-- Document 01: "Addresses 0x00 to 0x7F are individual, 0x80 to 0xFF are groups".
use Rattle.std.specs.Prelude.{ℕ, Bool, cond, ltb, leb}
use Rattle.wire.specs.declared.address.Address.{Address}
use Rattle.wire.specs.declared.address.Address.TheVariants as address

-- 0x00 to 0x7F
abbrev pub individual_in_range : ℕ → Bool
individual_in_range b = ltb b 0x80

-- 0x80 to 0xFF
abbrev pub group_in_range : ℕ → Bool
group_in_range b = leb 0x80 b

-- what an address byte names
abbrev pub address_of : ℕ → Address
address_of b = cond (individual_in_range b) (address.Individual (record { 0 = b })) (address.Group (record { 0 = b }))

-- the byte of an address
abbrev pub byte_of : Address → ℕ
byte_of (address.Individual i) = i.0
byte_of (address.Group g) = g.0

-- the address is of its range
abbrev pub in_range : Address → Bool
in_range (address.Individual i) = individual_in_range i.0
in_range (address.Group g) = group_in_range g.0
