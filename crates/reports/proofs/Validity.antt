-- Any number but 0 leaves the session as it stood, and every report keeps a session valid.
use Prim.Native.Nat.{ℕ, ◌+◌, ◌≤◌}
use mathlib.Core.Bool.{Bool, true, false, cond}
use mathlib.Core.List.{List}
use mathlib.Core.Path.{◌≡◌, refl, ◌∙◌}
use native.Mathlib.Omega.{arith}
use lib.ListN.{length}
use Rattle.wire.specs.declared.address.Address.{Address}
use Rattle.wire.specs.declared.refusal.Refusal.TheVariants as refusal
use Rattle.command.specs.declared.Command.{Command}
use Rattle.command.specs.declared.Command.TheVariants.{SetAddress, SetBaudRate}
use Rattle.status.specs.Status.{judge_of}
use Rattle.status.specs.declared.Answer.{Answer}
use Rattle.status.specs.declared.Answer.TheVariants.{Clear, Marked, Silent}
use Rattle.entry.specs.declared.Entry.{Entry}
use Rattle.ledger.proofs.Ledgers.{length_settled}
use Rattle.session.specs.declared.Exchange.{Exchange}
use Rattle.session.specs.declared.Exchange.TheVariants.{Idle, Waiting}
use Rattle.session.specs.declared.Session.{Session}
use Rattle.session.specs.Session.{Valid, is_closed, given_place}
use Rattle.session.proofs.Sessions.{valid_says, valid_from, either, Stays, by_test}
use Rattle.reports.specs.Report.{is_giving, is_asking, idle_at, noted_of, is_telling, told_by, conclude_of, finish_by, finish_of, report_of}
use Rattle.reports.proofs.Closing.{giving_walks, asking_walks}

stays_by : (x : Exchange) (s : Session) (a : Answer) → Stays s (finish_by x s a)
stays_by Idle s a z = refl
stays_by (Waiting at to c) s a z = absurd (z refl)

pub finished_stays : (s : Session) (a : Answer) → Stays s (finish_of s a)
unfolding finish_of
finished_stays s a = by_test (is_closed s) s refusal.Idle (finish_by s.exchange s a) (stays_by s.exchange s a)

pub report_stays : (s : Session) (bytes : List ℕ) → Stays s (report_of s bytes)
unfolding report_of
report_stays s bytes = finished_stays s (judge_of bytes)

-- the end of an exchange: a step of the walk only while it goes on
idle_valid : (s : Session) (w : ℕ) (es : List Entry) → Valid s → w ≤ s.n → length es ≡ length s.entries → Valid (idle_at s w es)
idle_valid s w es h p q = record { valid = valid_from _ (valid_says s h.valid).few p refl; whole = q ∙ h.whole }

either_session : (b : Bool) (x y : Session) → (b ≡ true → Valid x) → (b ≡ false → Valid y) → Valid (cond b x y)
either_session true x y p q = p refl
either_session false x y p q = q refl

pub noted_valid : (s : Session) (to : Address) (c : Command) (a : Answer) → Valid s → Valid (noted_of s to c a)
unfolding noted_of
noted_valid s to c Marked h = idle_valid s s.walk s.entries h (valid_says s h.valid).walked refl
noted_valid s to c Silent h = idle_valid s s.walk _ h (valid_says s h.valid).walked (length_settled Silent to c s.n s.entries)
noted_valid s to c Clear h =
    either_session (is_giving s to c) _ _
    (λ e. let w = giving_walks (is_giving s to c) s to c refl e in idle_valid s (s.walk + 1) _ h (omega arith) (length_settled Clear to c s.n s.entries))
    (λ e. either_session (is_asking s to c) _ _
    (λ f. let w = asking_walks (is_asking s to c) s to c refl f in
    idle_valid s (s.walk + 1) _ h (omega arith) (length_settled Clear to (SetAddress (given_place (s.walk + 1))) s.n s.entries))
    (λ f. idle_valid s s.walk _ h (valid_says s h.valid).walked (length_settled Clear to c s.n s.entries)))

told_valid : (s : Session) (at : ℕ) (to : Address) (a : Answer) → Valid s → Valid (told_by a s at to)
told_valid s at to Marked h = h
told_valid s at to Silent h = h
told_valid s at to Clear h = idle_valid s s.walk _ h (valid_says s h.valid).walked (length_settled Clear to (SetBaudRate at) s.n s.entries)

pub concluded_valid : (s : Session) (at : ℕ) (to : Address) (c : Command) (a : Answer) → Valid s → Valid (conclude_of s at to c a)
unfolding conclude_of
concluded_valid s at to c a h =
    let n = noted_valid s to c a h in
    either_session (is_telling to c) _ _ (λ e. told_valid (noted_of s to c a) at to a n) (λ e. n)

by_exchange : (x : Exchange) (s : Session) (a : Answer) → Valid s → Valid (finish_by x s a).session
by_exchange Idle s a h = h
by_exchange (Waiting at to c) s a h = concluded_valid s at to c a h

pub finished_valid : (s : Session) (a : Answer) → Valid s → Valid (finish_of s a).session
unfolding finish_of
finished_valid s a h = either (is_closed s) _ _ (λ e. h) (λ e. by_exchange s.exchange s a h)

pub report_valid : (s : Session) (bytes : List ℕ) → Valid s → Valid (report_of s bytes).session
unfolding report_of
report_valid s bytes h = finished_valid s (judge_of bytes) h
