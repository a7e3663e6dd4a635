-- EXCHANGE; a law for each exit of the code.
use Prim.Native.Nat.{ℕ, ◌+◌, ◌<◌, ◌≤◌}
use mathlib.Core.Bool.{Bool, true, false}
use mathlib.Core.List.{List}
use mathlib.Core.Path.{◌≡◌}
use lib.ListN.{drop}
use borrow.Author.Tests.{lt-ltb, le-ltb, eq-eqb, ne_eqb}
use Rattle.wire.specs.declared.address.Address.{Address}
use Rattle.command.specs.declared.Command.{Command}
use Rattle.session.specs.declared.Exchange.{Exchange}
use Rattle.session.specs.declared.Exchange.TheVariants.{Idle, Waiting}
use Rattle.fields.specs.declared.answer.Answer.{Answer}
use Rattle.fields.specs.Field.{fields_byte}
use Rattle.fields.specs.Answer.{answer_put}
use Rattle.state.specs.Order.{data_count, is_order, read_command, read_target, put_order}
use Rattle.state.specs.Exchange.{exchange_length, is_exchange, read_exchange, put_exchange}

module _ (s : List ℕ) (k : ℕ) (e : k ≡ fields_byte s 0) where
  pub length_idle : k < 1 → 1 ≡ exchange_length s
  unfolding exchange_length
  length_idle h = rw (← e, lt-ltb k 1 h)

  pub length_waiting : (n : ℕ) (p : List ℕ) → 1 ≤ k → p ≡ drop 2 s → n ≡ data_count p → 6 + n ≡ exchange_length s
  unfolding exchange_length
  length_waiting n p h d q = rw (← e, le-ltb k 1 h, ← d, ← q)

  pub exchange_idle : k ≡ 0 → true ≡ is_exchange s
  unfolding is_exchange
  exchange_idle h = rw (← e, eq-eqb k 0 h)

  pub exchange_order : (p : List ℕ) (r : Bool) → k ≡ 1 → p ≡ drop 2 s → r ≡ is_order p → r ≡ is_exchange s
  unfolding is_exchange
  exchange_order p r h d q = rw (← e, h, ← d) q

  pub exchange_none : (k ≡ 0 → ⊥) → (k ≡ 1 → ⊥) → false ≡ is_exchange s
  unfolding is_exchange
  exchange_none z h = rw (← e, ne_eqb k 0 z, ne_eqb k 1 h)

  pub reads_idle : k < 1 → Idle ≡ read_exchange s
  unfolding read_exchange
  reads_idle h = rw (← e, lt-ltb k 1 h)

  pub reads_waiting : (p : List ℕ) (at : ℕ) (to : Address) (c : Command) → 1 ≤ k → p ≡ drop 2 s → at ≡ fields_byte s 1 → to ≡ read_target p → c ≡ read_command p
      → Waiting at to c ≡ read_exchange s
  unfolding read_exchange
  reads_waiting p at to c h d v q r = rw (← e, le-ltb k 1 h, ← d, ← v, ← q, ← r)

pub idle_put : (a y : Answer) (x : Exchange) → x ≡ Idle → y ≡ answer_put a 0 → y ≡ put_exchange a x
idle_put a y x p q = rw p q

pub waiting_put : (a b d y : Answer) (x : Exchange) (at : ℕ) (to : Address) (c : Command) → x ≡ Waiting at to c → b ≡ answer_put a 1 → d ≡ answer_put b at → y ≡ put_order d to c
    → y ≡ put_exchange a x
waiting_put a b d y x at to c p q v r = rw (p, ← q, ← v) r
