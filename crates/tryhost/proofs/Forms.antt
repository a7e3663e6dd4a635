-- Whether a line is of its form; a law for each exit of the code.
use Prim.Native.Nat.{ℕ, ◌+◌}
use mathlib.Core.Bool.{Bool, true, false, not, ◌||◌}
use mathlib.Core.List.{List}
use mathlib.Core.Path.{◌≡◌}
use lib.Dec.{ltb, eqb}
use lib.ListN.{length, drop}
use borrow.Author.Tests.{eq-eqb, ne_eqb}
use Rattle.command.specs.declared.Command.{Command}
use Rattle.command.specs.declared.Role.{Role}
use Rattle.command.specs.Role.{role_of, is_placing, is_pacing}
use Rattle.fields.specs.Field.{fields_byte}
use Rattle.fields.specs.Kind.{are_kinds}
use Rattle.fields.specs.Lending.{most_room, is_lending}
use Rattle.state.specs.Order.{is_order, read_command}
use Rattle.state.specs.State.{is_state}
use Rattle.tryhost.specs.Form.{is_ready_order, is_regroup, is_formed, is_sending, is_power_up, is_call}

module _ (s : List ℕ) where
  pub ready_not : (t : Bool) → t ≡ is_order s → t ≡ false → false ≡ is_ready_order s
  unfolding is_ready_order
  ready_not t p q = rw (← p, q)

  pub ready_is : (t b d : Bool) (c : Command) (o : Role) → t ≡ is_order s → t ≡ true → c ≡ read_command s → o ≡ role_of c → b ≡ is_placing o → d ≡ is_pacing o
      → not (b || d) ≡ is_ready_order s
  unfolding is_ready_order
  ready_is t b d c o p q h i j k = rw (← p, q, ← h, ← i, ← j, ← k)

  pub regroup_length : (length s ≡ 3 → ⊥) → false ≡ is_regroup s
  unfolding is_regroup
  regroup_length p = rw (ne_eqb (length s) 3 p)

  pub regroup_flag : (k : ℕ) (r : Bool) → length s ≡ 3 → k ≡ fields_byte s 2 → r ≡ ltb k 2 → r ≡ is_regroup s
  unfolding is_regroup
  regroup_flag k r p q h = rw (eq-eqb (length s) 3 p, ← q) h

  pub power_up_length : (n : ℕ) → n ≡ fields_byte s 0 → (length s ≡ 1 + n → ⊥) → false ≡ is_power_up s
  unfolding is_power_up
  power_up_length n p q = rw (← p, ne_eqb (length s) (1 + n) q)

  pub power_up_kinds : (n : ℕ) (b : List ℕ) (r : Bool) → n ≡ fields_byte s 0 → length s ≡ 1 + n → b ≡ drop 1 s → r ≡ are_kinds b → r ≡ is_power_up s
  unfolding is_power_up
  power_up_kinds n b r p q h i = rw (← p, eq-eqb (length s) (1 + n) q, ← h) i

module _ (s : List ℕ) (kind : ℕ) where
  pub formed_next : (r : Bool) → kind ≡ 0x31 → r ≡ ltb (length s) 1 → r ≡ is_formed kind s
  unfolding is_formed
  formed_next r p q = rw p q

  pub formed_ask : (r : Bool) → kind ≡ 0x32 → r ≡ ltb (length s) 1 → r ≡ is_formed kind s
  unfolding is_formed
  formed_ask r p q = rw p q

  pub formed_order : (r : Bool) → kind ≡ 0x33 → r ≡ is_ready_order s → r ≡ is_formed kind s
  unfolding is_formed
  formed_order r p q = rw p q

  pub formed_regroup : (r : Bool) → kind ≡ 0x34 → r ≡ is_regroup s → r ≡ is_formed kind s
  unfolding is_formed
  formed_regroup r p q = rw p q

  pub formed_baud_rate : (r : Bool) → kind ≡ 0x39 → r ≡ eqb (length s) 2 → r ≡ is_formed kind s
  unfolding is_formed
  formed_baud_rate r p q = rw p q

  pub formed_none : (kind ≡ 0x31 → ⊥) → (kind ≡ 0x32 → ⊥) → (kind ≡ 0x33 → ⊥) → (kind ≡ 0x34 → ⊥) → (kind ≡ 0x39 → ⊥) → false ≡ is_formed kind s
  unfolding is_formed
  formed_none p q h i j = rw (ne_eqb kind 0x31 p, ne_eqb kind 0x32 q, ne_eqb kind 0x33 h, ne_eqb kind 0x34 i, ne_eqb kind 0x39 j)

  pub sending_not : (t : Bool) → t ≡ is_lending s 2 most_room → t ≡ false → false ≡ is_sending kind s
  unfolding is_sending
  sending_not t p q = rw (← p, q)

  pub sending_is : (t r : Bool) (b : List ℕ) → t ≡ is_lending s 2 most_room → t ≡ true → b ≡ drop 2 s → r ≡ is_formed kind b → r ≡ is_sending kind s
  unfolding is_sending
  sending_is t r b p q h i = rw (← p, q, ← h) i

  pub call_power_up : (r : Bool) → kind ≡ 0x30 → r ≡ is_power_up s → r ≡ is_call kind s
  unfolding is_call
  call_power_up r p q = rw p q

  pub call_report : kind ≡ 0x35 → true ≡ is_call kind s
  unfolding is_call
  call_report p = rw p

  pub call_silence : (r : Bool) → kind ≡ 0x36 → r ≡ ltb (length s) 1 → r ≡ is_call kind s
  unfolding is_call
  call_silence r p q = rw p q

  pub call_state : (r : Bool) → kind ≡ 0x38 → r ≡ is_state s → r ≡ is_call kind s
  unfolding is_call
  call_state r p q = rw p q

  pub call_none : (kind ≡ 0x30 → ⊥) → (kind ≡ 0x35 → ⊥) → (kind ≡ 0x36 → ⊥) → (kind ≡ 0x38 → ⊥) → false ≡ is_call kind s
  unfolding is_call
  call_none p q h i = rw (ne_eqb kind 0x30 p, ne_eqb kind 0x35 q, ne_eqb kind 0x36 h, ne_eqb kind 0x38 i)
