-- The calls that send, and what they show; a law for each exit of the code.
use Prim.Native.Nat.{ℕ, ◌-◌}
use mathlib.Core.Bool.{Bool}
use mathlib.Core.List.{List}
use mathlib.Core.Path.{◌≡◌, refl}
use native.Mathlib.Nat.{sub-zero}
use lib.Dec.{eqb}
use lib.ListN.{take, drop}
use borrow.Author.Tests.{ne_eqb}
use Rattle.wire.specs.Promise.{Lending}
use Rattle.wire.specs.declared.address.Address.{Address}
use Rattle.command.specs.declared.Command.{Command}
use Rattle.fields.specs.declared.answer.Answer.{Answer}
use Rattle.fields.specs.Field.{fields_byte}
use Rattle.fields.specs.Answer.{numbered_of}
use Rattle.fields.specs.Lending.{most_room, filled_of, room_of}
use Rattle.session.specs.declared.Session.{Session}
use Rattle.session.specs.declared.Step.{Step}
use Rattle.session.specs.Session.{step_number}
use Rattle.walk.specs.Walk.{next_of, ask_of}
use Rattle.host.specs.Calls.{order_of, regroup_of, set_baud_rate_of}
use Rattle.state.specs.Order.{read_target, read_command}
use Rattle.tryhost.specs.declared.Tried.{Tried}
use Rattle.tryhost.specs.Trying.{with_session, tried_by, tryhost_regroup, tryhost_set_baud_rate, send_of, send_lent, lend_of}

pub session_with : (a : Answer) (s : Session) → record { answer = a; session = s } ≡ with_session a s
unfolding with_session
session_with a s = refl

pub tried_step : (step : Step) (lent : List ℕ) (n : ℕ) (a : Answer) (r : Tried) → n ≡ step_number step → a ≡ numbered_of n lent → r ≡ with_session a step.session
    → r ≡ tried_by step lent
unfolding tried_by
tried_step step lent n a r p q h = rw (← p, ← q) h

module _ (s : Session) (at : ℕ) (args out left : List ℕ) (r : Step) where
  pub regroup_by : (a b c : ℕ) (leader : Bool) → a ≡ fields_byte args 0 → b ≡ fields_byte args 1 → c ≡ fields_byte args 2 → leader ≡ eqb c 1
      → Lending step_number r left (regroup_of s at (record { 0 = a }) (record { 0 = b }) leader out) → Lending step_number r left (tryhost_regroup s at args out)
  regroup_by a b c leader p q h i l = rw (← p, ← q, ← h, ← i) l

  pub baud_rate_by : (a b : ℕ) → a ≡ fields_byte args 0 → b ≡ fields_byte args 1 → Lending step_number r left (set_baud_rate_of s at (record { 0 = a }) b out)
      → Lending step_number r left (tryhost_set_baud_rate s at args out)
  baud_rate_by a b p q l = rw (← p, ← q) l

  module _ (kind : ℕ) where
    pub sends_next : kind ≡ 0x31 → Lending step_number r left (next_of s at out) → Lending step_number r left (send_of s kind at args out)
    unfolding send_of
    sends_next p l = rw p l

    pub sends_ask : kind ≡ 0x32 → Lending step_number r left (ask_of s at out) → Lending step_number r left (send_of s kind at args out)
    unfolding send_of
    sends_ask p l = rw p l

    pub sends_order : (to : Address) (c : Command) → kind ≡ 0x33 → to ≡ read_target args → c ≡ read_command args → Lending step_number r left (order_of s at to c out)
        → Lending step_number r left (send_of s kind at args out)
    unfolding send_of
    sends_order to c p q h l = rw (p, ← q, ← h) l

    pub sends_regroup : kind ≡ 0x34 → Lending step_number r left (tryhost_regroup s at args out) → Lending step_number r left (send_of s kind at args out)
    unfolding send_of
    sends_regroup p l = rw p l

    pub sends_baud_rate : (kind ≡ 0x31 → ⊥) → (kind ≡ 0x32 → ⊥) → (kind ≡ 0x33 → ⊥) → (kind ≡ 0x34 → ⊥) → Lending step_number r left (tryhost_set_baud_rate s at args out)
        → Lending step_number r left (send_of s kind at args out)
    unfolding send_of
    sends_baud_rate p q h i l = rw (ne_eqb kind 0x31 p, ne_eqb kind 0x32 q, ne_eqb kind 0x33 h, ne_eqb kind 0x34 i) l

pub lent_shown : (s : Session) (kind at : ℕ) (args out left : List ℕ) (step : Step) (r : Tried) → Lending step_number step left (send_of s kind at args out) → r ≡ tried_by step left
    → r ≡ send_lent s kind at args out
unfolding send_lent
lent_shown s kind at args out left step r l e = rw (← l.answer, ← l.leaves) e

pub lends : (s : Session) (kind at n : ℕ) (args p b : List ℕ) (r : Tried) → b ≡ filled_of → n ≡ room_of args most_room → at ≡ fields_byte args 1 → p ≡ drop 2 args → r ≡ send_lent s kind at p (take (n - 0) b)
    → r ≡ lend_of s kind args
unfolding lend_of
lends s kind at n args p b r d e v f h = rw (h, d, e, v, f, sub-zero (room_of args most_room))
