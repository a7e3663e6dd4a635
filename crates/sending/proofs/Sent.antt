-- What is sent: a packet at the start of the buffer, or 5 leaves all as it stood.
use Prim.Native.Nat.{ℕ, ◌<◌, ◌≤◌}
use Rattle.wire.specs.declared.refusal.Refusal.{Refusal}
use Rattle.std.specs.Prelude.{Result, Ok, Err, ⊤, Some}
use mathlib.Core.Bool.{Bool, true, false}
use mathlib.Core.List.{List, ◌++◌}
use mathlib.Core.Path.{◌≡◌, refl, sym, ap, ◌∙◌}
use native.Mathlib.Omega.{arith}
use lib.Dec.{ltb}
use lib.ListN.{length, drop}
use borrow.Author.Tests.{lt-ltb, le-ltb, ltb-true, ltb-false}
use Rattle.wire.specs.Promise.{Outcome}
use Rattle.wire.specs.Address.{individual_in_range, in_range}
use Rattle.wire.specs.declared.address.Address.{Address}
use Rattle.wire.specs.declared.refusal.Refusal.TheVariants.{Room}
use Rattle.buffer.specs.Buffer.{written}
use Rattle.wire.specs.Numbers.{done}
use Rattle.wire.proofs.Numbers.{not_done}
use Rattle.command.specs.declared.Command.{Command}
use Rattle.command.specs.Role.{role_of, is_reset}
use Rattle.command.specs.Ranges.{fits_of}
use Rattle.codec.specs.Build.{packet_for}
use Rattle.codec.proofs.Commands.{built_written}
use Rattle.ledger.specs.Ledger.{forget_of}
use Rattle.session.specs.declared.Exchange.TheVariants.{Idle, Waiting}
use Rattle.session.specs.declared.Session.{Session}
use Rattle.session.specs.declared.Step.{Step}
use Rattle.session.specs.Session.{refuse_of, step_number}
use Rattle.sending.specs.Sending.{open_exchange, step_by, transmit_of, by_check}

-- the packet at the start of the buffer, and the exchange opened
abbrev pub sending : Session → ℕ → Address → Address → Command → List ℕ → Outcome Step (List ℕ)
sending s at called to c out = record {
  answer = record { end = Ok (Some (length (packet_for called c))); session = open_exchange s at to c };
  left = packet_for called c ++ drop (length (packet_for called c)) out;
}

-- 5
abbrev pub roomless : Session → List ℕ → Outcome Step (List ℕ)
roomless s out = record { answer = refuse_of s Room; left = out }

-- by the room that the packet has, and by nothing else
pub record Sends (s : Session) (at : ℕ) (called to : Address) (c : Command) (out : List ℕ) (o : Outcome Step (List ℕ)) : Type 0 where
  pub room : length (packet_for called c) ≤ length out → o ≡ sending s at called to c out
  pub none : length out < length (packet_for called c) → o ≡ roomless s out

by_written : (s : Session) (at : ℕ) (called to : Address) (c : Command) (out : List ℕ)
    → Sends s at called to c out (record { answer = step_by s (open_exchange s at to c) (written (packet_for called c) out).answer; left = (written (packet_for called c) out).left })
unfolding written
by_written s at called to c out = record {
  room = λ h. rw (le-ltb (length out) (length (packet_for called c)) h);
  none = λ h. rw (lt-ltb (length out) (length (packet_for called c)) h);
}

-- a command to an address of its range
pub transmitted_sends : (s : Session) (at : ℕ) (called to : Address) (c : Command) (out : List ℕ) → in_range called ≡ true → fits_of c ≡ true
    → Sends s at called to c out (transmit_of s at called to c out)
unfolding transmit_of
transmitted_sends s at called to c out p q = rw (built_written called c out p q) (by_written s at called to c out)

-- where the check before it is clear
pub by_passed : (k : Result ⊤ Refusal) (s : Session) (at : ℕ) (called to : Address) (c : Command) (out : List ℕ) (o : Outcome Step (List ℕ)) → k ≡ Ok tt
    → Sends s at called to c out o → Sends s at called to c out (by_check k s out o)
by_passed k s at called to c out o p h = rw p h

-- a node 1 to n has an individual address
pub node_fits : (n k : ℕ) → n ≤ 31 → k ≤ n → individual_in_range k ≡ true
node_fits n k p q = lt-ltb k 0x80 (omega arith)

-- a call with number 0: its check was clear, and its packet went out
pub record Went (k : Result ⊤ Refusal) (s : Session) (at : ℕ) (called to : Address) (c : Command) (out : List ℕ) (o : Outcome Step (List ℕ)) : Type 0 where
  pub passed : k ≡ Ok tt
  pub result : o ≡ sending s at called to c out

by_room : (b : Bool) (s : Session) (at : ℕ) (called to : Address) (c : Command) (out : List ℕ) (o : Outcome Step (List ℕ)) → ltb (length out) (length (packet_for called c)) ≡ b
    → Sends s at called to c out o → step_number o.answer ≡ done → o ≡ sending s at called to c out
by_room true s at called to c out o e h d =
    absurd (not_done Room (sym (ap (λ (x : Outcome Step (List ℕ)). step_number x.answer) (h.none (ltb-true _ _ e))) ∙ d))
by_room false s at called to c out o e h d = h.room (ltb-false _ _ e)

-- by the check before it
pub went : (k : Result ⊤ Refusal) (s : Session) (at : ℕ) (called to : Address) (c : Command) (out : List ℕ) (o : Outcome Step (List ℕ))
    → (k ≡ Ok tt → Sends s at called to c out (by_check k s out o)) → step_number (by_check k s out o).answer ≡ done → Went k s at called to c out (by_check k s out o)
went (Ok tt) s at called to c out o h d =
    record { passed = refl; result = by_room (ltb (length out) (length (packet_for called c))) s at called to c out o refl (h refl) d }
went (Err why) s at called to c out o h d = absurd (not_done why d)

-- the session then: closed and all in doubt after a Hard Reset, else waiting
pub opened_reset : (s : Session) (at : ℕ) (to : Address) (c : Command) → is_reset (role_of c) ≡ true
    → open_exchange s at to c ≡ record { started = false; n = s.n; walk = s.walk; exchange = Idle; entries = forget_of s.entries }
unfolding open_exchange
opened_reset s at to c h = rw h

pub opened_waits : (s : Session) (at : ℕ) (to : Address) (c : Command) → is_reset (role_of c) ≡ false
    → open_exchange s at to c ≡ record { started = s.started; n = s.n; walk = s.walk; exchange = Waiting at to c; entries = s.entries }
unfolding open_exchange
opened_waits s at to c h = rw h
