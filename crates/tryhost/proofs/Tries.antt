-- The calls that lend nothing, and what a line makes; a law for each exit of the code.
use Prim.Native.Nat.{ℕ, ◌<◌, ◌≤◌}
use Rattle.std.specs.Prelude.{Ok, None}
use mathlib.Core.Bool.{Bool, true, false}
use mathlib.Core.List.{List, []}
use mathlib.Core.Path.{◌≡◌}
use lib.ListN.{length, drop}
use borrow.Author.Tests.{ne_eqb, lt-ltb, le-ltb}
use Rattle.wire.specs.Promise.{Promise, promised}
use Rattle.wire.specs.Numbers.{done}
use Rattle.fields.specs.declared.answer.Answer.{Answer}
use Rattle.wire.specs.declared.kind.Kind.{Kind}
use Rattle.fields.specs.Field.{fields_byte}
use Rattle.fields.specs.Kind.{read_kinds}
use Rattle.fields.specs.Answer.{fields_nothing, answer_put, malformed_of}
use Rattle.session.specs.declared.Session.{Session}
use Rattle.session.specs.declared.Step.{Step}
use Rattle.session.specs.Session.{step_number}
use Rattle.start.specs.Start.{start_power_up}
use Rattle.reports.specs.Report.{report_of, silence_of}
use Rattle.state.specs.State.{read_state, put_state}
use Rattle.tryhost.specs.declared.Tried.{Tried}
use Rattle.tryhost.specs.Form.{is_call, is_sending}
use Rattle.tryhost.specs.Trying.{with_session, tried_by, lend_of, tryhost_power_up, handed_in, call_of, show_of, answer_to, attempt_of}

pub hands_in : (args : List ℕ) (s : Session) → s ≡ read_state args → Promise step_number (record { end = Ok None; session = s }) (handed_in args)
hands_in args s e = promised (rw e)

pub powers_up : (s : Session) (args b : List ℕ) (n : ℕ) (ks : List Kind) (r : Step) → b ≡ drop 1 args → ks ≡ read_kinds b → n ≡ fields_byte args 0
    → Promise step_number r (start_power_up s n ks) → Promise step_number r (tryhost_power_up s args)
powers_up s args b n ks r p q h l = rw (← p, ← q, ← h) l

module _ (s : Session) (kind : ℕ) (args : List ℕ) where
  pub calls_power_up : (r : Step) → kind ≡ 0x30 → Promise step_number r (tryhost_power_up s args) → Promise step_number r (call_of s kind args)
  unfolding call_of
  calls_power_up r p l = rw p l

  pub calls_report : (r : Step) → kind ≡ 0x35 → Promise step_number r (report_of s args) → Promise step_number r (call_of s kind args)
  unfolding call_of
  calls_report r p l = rw p l

  pub calls_silence : (r : Step) → kind ≡ 0x36 → Promise step_number r (silence_of s) → Promise step_number r (call_of s kind args)
  unfolding call_of
  calls_silence r p l = rw p l

  pub calls_hand_in : (r : Step) → (kind ≡ 0x30 → ⊥) → (kind ≡ 0x35 → ⊥) → (kind ≡ 0x36 → ⊥) → Promise step_number r (handed_in args) → Promise step_number r (call_of s kind args)
  unfolding call_of
  calls_hand_in r p q h l = rw (ne_eqb kind 0x30 p, ne_eqb kind 0x35 q, ne_eqb kind 0x36 h) l

  pub show_malformed : (a : Answer) → 0 < length args → a ≡ malformed_of → a ≡ show_of s args
  unfolding show_of
  show_malformed a p q = rw (lt-ltb 0 (length args) p) q

  pub show_state : (a b r : Answer) → length args ≤ 0 → a ≡ fields_nothing → b ≡ answer_put a done → r ≡ put_state b s → r ≡ show_of s args
  unfolding show_of
  show_state a b r p q h i = rw (le-ltb 0 (length args) p, ← q, ← h) i

  pub answers_show : (a : Answer) → kind ≡ 0x37 → a ≡ show_of s args → a ≡ answer_to s kind args
  unfolding answer_to
  answers_show a p q = rw p q

  pub answers_none : (a : Answer) → (kind ≡ 0x37 → ⊥) → a ≡ malformed_of → a ≡ answer_to s kind args
  unfolding answer_to
  answers_none a p q = rw (ne_eqb kind 0x37 p) q

  module _ (t : Bool) (r : Tried) (e : t ≡ is_call kind args) where
    pub tries_call : (step : Step) → t ≡ true → Promise step_number step (call_of s kind args) → r ≡ tried_by step [] → r ≡ attempt_of s kind args
    unfolding attempt_of
    tries_call step p l q = rw (← e, p, ← l.answer) q

    pub tries_send : (u : Bool) → t ≡ false → u ≡ is_sending kind args → u ≡ true → r ≡ lend_of s kind args → r ≡ attempt_of s kind args
    unfolding attempt_of
    tries_send u p f q h = rw (← e, p, ← f, q) h

    pub tries_other : (u : Bool) (a : Answer) → t ≡ false → u ≡ is_sending kind args → u ≡ false → a ≡ answer_to s kind args → r ≡ with_session a s → r ≡ attempt_of s kind args
    unfolding attempt_of
    tries_other u a p f q h i = rw (← e, p, ← f, q, ← h) i
