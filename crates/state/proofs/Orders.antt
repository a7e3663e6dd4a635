-- ORDER; a law for each exit of the code.
use Prim.Native.Nat.{ℕ, ◌+◌, ◌%◌, ◌<◌, ◌≤◌}
use Rattle.wire.specs.declared.refusal.Refusal.{Refusal}
use Rattle.std.specs.Prelude.{Result, Option, Some, None, ℕ}
use Rattle.wire.specs.Numbers.{number_by}
use mathlib.Core.Bool.{Bool, true, false, not, ◌||◌}
use mathlib.Core.List.{List, [], ◌∷◌}
use mathlib.Core.Path.{◌≡◌}
use lib.Dec.{eqb}
use lib.ListN.{length, drop, get_or, replicate}
use borrow.Author.Tests.{lt-ltb, le-ltb, eq-eqb, ne_eqb}
use Rattle.wire.specs.Address.{byte_of}
use Rattle.wire.specs.declared.address.Address.{Address}
use Rattle.wire.specs.declared.address.Address.TheVariants as address
use Rattle.wire.specs.declared.kind.Kind.TheVariants.{Gate}
use Rattle.wire.specs.Promise.{Lending}
use Rattle.buffer.specs.Buffer.{written}
use Rattle.packet.specs.Packet.{data_part}
use Rattle.codec.specs.Reading.{codec_read}
use Rattle.codec.specs.Own.{drive_own}
use Rattle.codec.specs.Build.{packet_to}
use Rattle.command.specs.Owner.{has}
use Rattle.command.specs.Role.{role_of, is_pacing}
use Rattle.command.specs.declared.Command.{Command}
use Rattle.command.specs.declared.Command.TheVariants.{Nop}
use Rattle.command.specs.declared.Role.{Role}
use Rattle.fields.specs.declared.answer.Answer.{Answer}
use Rattle.fields.specs.Field.{fields_byte}
use Rattle.fields.specs.Answer.{answer_put_all}
use Rattle.state.specs.Order.{data_count, read_family, read_order, is_order, read_command, read_target, target_kind, family_of, put_order}

module _ (f k : ℕ) (d : List ℕ) where
  pub family_gate : (r : Option Command) → f ≡ 0 → r ≡ codec_read Gate k d → r ≡ read_family f k d
  unfolding read_family
  family_gate r h e = rw h e

  pub family_drive : (r : Option Command) → f ≡ 1 → r ≡ drive_own k d → r ≡ read_family f k d
  unfolding read_family
  family_drive r h e = rw h e

  pub family_none : (f ≡ 0 → ⊥) → (f ≡ 1 → ⊥) → None ≡ read_family f k d
  unfolding read_family
  family_none p q = rw (ne_eqb f 0 p, ne_eqb f 1 q)

pub family_first : (c : Command) (t : Bool) → t ≡ has Gate c → t ≡ true → 0 ≡ family_of c
family_first c t e h = rw (← e, h)

pub family_second : (c : Command) (t : Bool) → t ≡ has Gate c → t ≡ false → 1 ≡ family_of c
family_second c t e h = rw (← e, h)

module _ (s : List ℕ) where
  pub order_short : length s < 4 → None ≡ read_order s
  unfolding read_order
  order_short p = rw (lt-ltb (length s) 4 p)

  pub order_counted : (n : ℕ) → 4 ≤ length s → n ≡ data_count s → (length s ≡ 4 + n → ⊥) → None ≡ read_order s
  unfolding read_order
  order_counted n p e q = rw (le-ltb (length s) 4 p, ← e, ne_eqb (length s) (4 + n) q)

  pub order_kind : (n k : ℕ) → 4 ≤ length s → n ≡ data_count s → length s ≡ 4 + n → k ≡ fields_byte s 0 → 1 < k → None ≡ read_order s
  unfolding read_order
  order_kind n k p e q f h = rw (le-ltb (length s) 4 p, ← e, eq-eqb (length s) (4 + n) q, ← f, lt-ltb 1 k h)

  pub order_read : (n k y c : ℕ) (p : List ℕ) (r : Option Command) → 4 ≤ length s → n ≡ data_count s → length s ≡ 4 + n → k ≡ fields_byte s 0 → k ≤ 1
      → y ≡ fields_byte s 2 → c ≡ fields_byte s 3 → p ≡ drop 4 s → r ≡ read_family y (c % 16) p → r ≡ read_order s
  unfolding read_order
  order_read n k y c p r l e q f h i g d m = rw (le-ltb (length s) 4 l, ← e, eq-eqb (length s) (4 + n) q, ← f, le-ltb 1 k h, ← i, ← g, ← d) m

  pub order_is : (r : Option Command) (c : Command) (o : Role) (k : ℕ) (t : Bool) → r ≡ read_order s → r ≡ Some c → o ≡ role_of c → t ≡ is_pacing o → k ≡ fields_byte s 0 → (not t || eqb k 1) ≡ is_order s
  order_is r c o k t p q h i j = rw (← p, q, ← h, ← i, ← j)

  pub order_not : (r : Option Command) → r ≡ read_order s → r ≡ None → false ≡ is_order s
  order_not r p q = rw (← p, q)

  pub command_is : (r : Option Command) (c : Command) → r ≡ read_order s → r ≡ Some c → c ≡ read_command s
  command_is r c p q = rw (← p, q)

  pub command_none : (r : Option Command) → r ≡ read_order s → r ≡ None → Nop ≡ read_command s
  command_none r p q = rw (← p, q)

  pub target_node : (k n : ℕ) → k ≡ fields_byte s 0 → n ≡ fields_byte s 1 → k < 1 → address.Individual (record { 0 = n }) ≡ read_target s
  unfolding read_target
  target_node k n p q h = rw (← p, ← q, lt-ltb k 1 h)

  pub target_group : (k n : ℕ) → k ≡ fields_byte s 0 → n ≡ fields_byte s 1 → 1 ≤ k → address.Group (record { 0 = n }) ≡ read_target s
  unfolding read_target
  target_group k n p q h = rw (← p, ← q, le-ltb k 1 h)

pub order_put : (a x y : Answer) (to : Address) (c : Command) (built : Result ℕ Refusal) (p d : List ℕ) (k b f : ℕ) → Lending number_by built p (written (packet_to 0 c) (replicate 19 0))
    → k ≡ target_kind to → b ≡ byte_of to → f ≡ family_of c → x ≡ answer_put_all a (k ∷ b ∷ f ∷ get_or p 2 0 ∷ []) → d ≡ data_part p → y ≡ answer_put_all x d → y ≡ put_order a to c
unfolding put_order
order_put a x y to c built p d k b f l ek eb ef h i j = rw (← l.leaves, ← ek, ← eb, ← ef, ← h, ← i) j
