-- STATE; a law for each exit of the code.
use Prim.Native.Nat.{ℕ, ◌<◌, ◌≤◌}
use mathlib.Core.Bool.{Bool, true, false}
use mathlib.Core.List.{List}
use mathlib.Core.Path.{◌≡◌}
use lib.Dec.{eqb}
use lib.ListN.{take, drop}
use borrow.Author.Tests.{lt-leb, le-leb}
use Rattle.entry.specs.declared.Entry.{Entry}
use Rattle.session.specs.declared.Exchange.{Exchange}
use Rattle.session.specs.declared.Session.{Session}
use Rattle.fields.specs.declared.answer.Answer.{Answer}
use Rattle.fields.specs.Field.{fields_byte}
use Rattle.fields.specs.Answer.{answer_put, answer_put_flag}
use Rattle.layout.specs.Entries.{are_entries, read_entries, put_entries}
use Rattle.state.specs.Exchange.{exchange_length, is_exchange, read_exchange, put_exchange}
use Rattle.state.specs.State.{is_state, read_state, put_state}

module _ (s : List ℕ) (k : ℕ) (e : k ≡ fields_byte s 0) where
  pub state_flag : 1 < k → false ≡ is_state s
  unfolding is_state
  state_flag h = rw (← e, lt-leb k 1 h)

  module _ (b x : List ℕ) (l : ℕ) (d : b ≡ drop 3 s) (f : l ≡ exchange_length b) (g : x ≡ take l b) where
    pub state_none : (t : Bool) → k ≤ 1 → t ≡ is_exchange x → t ≡ false → false ≡ is_state s
    unfolding is_state
    state_none t h p q = rw (← e, le-leb k 1 h, ← d, ← f, ← g, ← p, q)

    pub state_entries : (t r : Bool) (y : List ℕ) → k ≤ 1 → t ≡ is_exchange x → t ≡ true → y ≡ drop l b → r ≡ are_entries y → r ≡ is_state s
    unfolding is_state
    state_entries t r y h p q i j = rw (← e, le-leb k 1 h, ← d, ← f, ← g, ← p, q, ← i) j

    pub state_read : (n w : ℕ) (o : Bool) (c : Exchange) (y : List ℕ) (es : List Entry) → o ≡ eqb k 1 → n ≡ fields_byte s 1 → w ≡ fields_byte s 2 → c ≡ read_exchange x
        → y ≡ drop l b → es ≡ read_entries y → record { started = o; n = n; walk = w; exchange = c; entries = es } ≡ read_state s
    unfolding read_state
    state_read n w o c y es p q r h i j = rw (← e, ← q, ← r, ← d, ← f, ← g, ← h, ← i, ← j, p)

pub state_put : (a f n w x y : Answer) (s : Session) → f ≡ answer_put_flag a s.started → n ≡ answer_put f s.n → w ≡ answer_put n s.walk
    → x ≡ put_exchange w s.exchange → y ≡ put_entries x s.entries → y ≡ put_state a s
unfolding put_state
state_put a f n w x y s p q r h i = rw (← p, ← q, ← r, ← h) i
