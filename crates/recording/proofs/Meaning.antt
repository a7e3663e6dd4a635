-- What a step says, in document 02's words: a command is a call that the host could have made, or there is none; a reply that no command waits for has no effect;
-- whatever a walk ends with, no exchange is open.
use Prim.Native.Nat.{ℕ}
use Rattle.wire.specs.declared.refusal.Refusal.{Refusal}
use Rattle.std.specs.Prelude.{Result, Ok, Err, Option, Some, None, ℕ}
use mathlib.Core.Bool.{Bool, true, false, cond}
use mathlib.Core.List.{List, [], ◌∷◌}
use mathlib.Core.Path.{◌≡◌, refl, sym, ap, subst, ◌∙◌}
use Rattle.wire.proofs.Impossible.{impossible}
use Rattle.wire.proofs.Numbers.{not_done}
use Rattle.wire.specs.declared.address.Address.{Address}
use Rattle.wire.specs.declared.kind.Kind.TheVariants.{Gate}
use Rattle.wire.specs.declared.refusal.Refusal.TheVariants as refusal
use Rattle.command.specs.declared.Command.TheVariants.{SetBaudRate}
use Rattle.codec.specs.Reading.{ReadsAs}
use Rattle.session.specs.declared.Exchange.{Exchange}
use Rattle.session.specs.declared.Exchange.TheVariants.{Idle, Waiting}
use Rattle.session.specs.declared.Session.{Session}
use Rattle.session.specs.Session.{is_closed, refuse_of, End}
use Rattle.wire.specs.Numbers.{done, number_by}
use Rattle.wire.proofs.Choice.{same}
use Rattle.status.specs.declared.Answer.TheVariants.{Silent}
use Rattle.sending.specs.Sending.{is_waiting, does_wait}
use Rattle.reports.specs.Report.{finish_by, finish_of, report_of}
use Rattle.reports.proofs.Concluding.{concluded_idle}
use Rattle.reports.proofs.Validity.{report_stays}
use Rattle.calls.specs.declared.Call.{Call}
use Rattle.calls.specs.Calls.{Gives, Unsendable}
use Rattle.calls.specs.Finding.{by_source, find_of}
use Rattle.calls.proofs.Rates.{rate_unsendable}
use Rattle.calls.proofs.Finding.{Made, found_gives, missing_unsendable}
use Rattle.capture.specs.Steps.{Recorded, sent, got}
use Rattle.capture.specs.declared.Cursor.{Cursor}
use Rattle.recording.specs.declared.Event.TheVariants as event
use Rattle.recording.specs.declared.Replayed.{Replayed}
use Rattle.recording.specs.Recording.{quiet_of, follow_of}
use Rattle.recording.specs.Stages.{command_by, reply_by, take_command, take_reply}

module _ (s : Session) (p : List ℕ) (next : Cursor) where
  sent_found : (x : Option Call) (q t : Session) (k : Call) → (command_by x next q t).event ≡ event.Sent k → (x ≡ Some k) × ((command_by x next q t).stage.session ≡ t)
  sent_found (Some c) q t k e = (ap Some (cc), refl)
  sent_found None q t k e = impossible cc

  -- a command that is sent is one that this call of the host gives, with the command before it silent, and the session is the one after that call
  pub sent_gives : (k : Call) → (take_command s p next).event ≡ event.Sent k → Made (quiet_of s) k p (take_command s p next).stage.session
  unfolding take_command
  sent_gives k e =
      let f = sent_found (find_of (quiet_of s) p).source (quiet_of s) (find_of (quiet_of s) p).session k e in
      subst (Made (quiet_of s) k p) (sym f.1) (found_gives (quiet_of s) p k f.0)

  foreign_missing : (x : Option Call) (q t : Session) → (command_by x next q t).event ≡ event.Foreign → (x ≡ None) × ((command_by x next q t).stage.session ≡ q)
  foreign_missing (Some c) q t e = impossible cc
  foreign_missing None q t e = (refl, refl)

  -- "a command the host couldn't have sent": no call of the host gives it in that session, which is the one at the end
  pub foreign_unsendable : (take_command s p next).event ≡ event.Foreign → Unsendable (take_command s p next).stage.session p
  unfolding take_command
  foreign_unsendable e =
      let f = foreign_missing (find_of (quiet_of s) p).source (quiet_of s) (find_of (quiet_of s) p).session e in
      subst (λ (t : Session). Unsendable t p) (sym f.1) (missing_unsendable (quiet_of s) p f.0)

  -- where some call gives it, it is sent
  pub given_sent : (k : Call) → Gives (quiet_of s) k p → (take_command s p next).event ≡ event.Foreign → ⊥
  unfolding take_command
  given_sent k g e =
      let f = foreign_missing (find_of (quiet_of s) p).source (quiet_of s) (find_of (quiet_of s) p).session e in
      missing_unsendable (quiet_of s) p f.0 k g

  -- "In a recording it ends the walk": so does a Set Baud Rate, to any address
  pub rate_ends : (a : Address) (v n : ℕ) → ReadsAs Gate p a (SetBaudRate v) n → (take_command s p next).event ≡ event.Foreign
  unfolding take_command
  rate_ends a v n r = go (find_of (quiet_of s) p).source refl
    where
      go : (x : Option Call) → (find_of (quiet_of s) p).source ≡ x → (command_by x next (quiet_of s) (find_of (quiet_of s) p).session).event ≡ event.Foreign
      go (Some k) e = absurd (rate_unsendable (quiet_of s) p a v n r k (found_gives (quiet_of s) p k e).gives)
      go None e = refl

  unawaited_by : (x : End) (t : Session) → (reply_by x next t).event ≡ event.Unawaited → (number_by x ≡ done → ⊥) × ((reply_by x next t).stage.session ≡ t)
  unawaited_by (Ok n) t e = impossible cc
  unawaited_by (Err why) t e = (not_done why, refl)

  -- "a reply that no command waits for is shown without effect"
  pub unawaited_stays : (take_reply s p next).event ≡ event.Unawaited → (take_reply s p next).stage.session ≡ s
  unfolding take_reply
  unawaited_stays e = let f = unawaited_by (report_of s p).end (report_of s p).session e in f.1 ∙ report_stays s p f.0

-- ---- no exchange is open at the end

idle_free : (t : Session) → t.exchange ≡ Idle → is_waiting t ≡ false
unfolding is_waiting
idle_free t e = ap (λ (x : Exchange). cond (is_closed t) false (does_wait x)) e ∙ same (is_closed t) false

closed_free : (t : Session) → is_closed t ≡ true → is_waiting t ≡ false
unfolding is_waiting
closed_free t e = rw e

finished_free : (x : Exchange) (s : Session) → s.exchange ≡ x → is_waiting (finish_by x s Silent).session ≡ false
finished_free Idle s e = idle_free s e
finished_free (Waiting at to c) s e = idle_free _ (concluded_idle s at to c Silent)

quiet_by : (b : Bool) (s : Session) → is_closed s ≡ b → is_waiting (cond b (refuse_of s refusal.Idle) (finish_by s.exchange s Silent)).session ≡ false
quiet_by true s e = closed_free s e
quiet_by false s e = finished_free s.exchange s refl

pub quiet_free : (s : Session) → is_waiting (quiet_of s) ≡ false
unfolding quiet_of finish_of
quiet_free s = quiet_by (is_closed s) s refl

by_call : (x : Option Call) (y z : Replayed) → is_waiting y.session ≡ false → is_waiting z.session ≡ false → is_waiting (by_source x y z).session ≡ false
by_call (Some k) y z e f = e
by_call None y z e f = f

-- however the walk ends
pub follow_free : (s : Session) (ps : List Recorded) → is_waiting (follow_of s ps).session ≡ false
follow_free s [] = quiet_free s
follow_free s (sent p ∷ ps) =
    by_call (find_of (quiet_of s) p.bytes).source (follow_of (find_of (quiet_of s) p.bytes).session ps) _ (follow_free (find_of (quiet_of s) p.bytes).session ps) (quiet_free s)
follow_free s (got p ∷ ps) = follow_free (report_of s p.bytes).session ps
