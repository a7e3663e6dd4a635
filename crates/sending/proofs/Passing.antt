-- What a passed check says: each of its tests failed.
use mathlib.Core.Bool.{Bool, true, false, true≢false}
use Rattle.std.specs.Prelude.{Ok, Err}
use mathlib.Core.List.{List, [], ◌∷◌}
use mathlib.Core.Path.{◌≡◌, refl}
use Rattle.wire.specs.declared.refusal.Refusal.{Refusal}
use Rattle.wire.specs.declared.refusal.Refusal.TheVariants.{Busy}
use Rattle.wire.proofs.Impossible.{impossible}
use Rattle.session.specs.declared.Exchange.{Exchange}
use Rattle.session.specs.declared.Exchange.TheVariants.{Idle, Waiting}
use Rattle.session.specs.declared.Session.{Session}
use Rattle.session.specs.Session.{is_closed}
use Rattle.session.proofs.Sessions.{Bounds, valid_says, closed_not}
use Rattle.sending.specs.declared.Tests.{Tests}
use Rattle.sending.specs.Sending.{does_wait, is_waiting, refusing, sequence, test_of}
use Rattle.sending.proofs.Refusing.{stays_refused}

-- each of some tests failed
abbrev pub AllFailed : List (Bool × Refusal) → Type 0
AllFailed [] = Unit {0}
AllFailed (t ∷ ts) = (t.0 ≡ false) × AllFailed ts

pub all_failed_lem : (ts : List (Bool × Refusal)) → refusing (Ok tt) ts ≡ Ok tt → AllFailed ts
all_failed_lem [] h = tt
all_failed_lem ((true, why) ∷ ts) h = impossible (cc (stays_refused ts why, h))
all_failed_lem ((false, why) ∷ ts) h = (refl, all_failed_lem ts h)

-- a started session with nothing on the line
pub record Free (s : Session) : Type 0 where
  pub valid : Bounds s
  pub started : s.started ≡ true
  pub idle : s.exchange ≡ Idle

idle_says : (x : Exchange) → does_wait x ≡ false → x ≡ Idle
idle_says Idle h = refl
idle_says (Waiting at to c) h = absurd (true≢false h)

waiting_not : (s : Session) → is_closed s ≡ false → is_waiting s ≡ false → s.exchange ≡ Idle
unfolding is_waiting
waiting_not s p h = idle_says s.exchange (rw p at h)

-- a passed check: the session is free, and the call found nothing wrong
pub record Passes (s : Session) (t : Tests) : Type 0 where
  pub session : Free s
  pub ranged : t.unranged ≡ false
  pub listed : t.unlisted ≡ false
  pub on_chain : t.stray ≡ false
  pub had : t.lacked ≡ false
  pub due : t.undue ≡ false
  pub unled : t.led ≡ false
  pub unanswerable : t.answerable ≡ false

pub check_says : (s : Session) (t : Tests) → test_of s t ≡ Ok tt → Passes s t
unfolding test_of
check_says s t h =
    let f = all_failed_lem (sequence s t) h in
    let v = closed_not s f.0 in
    record {
      session = record { valid = valid_says s v.0; started = v.1; idle = waiting_not s f.0 f.1.0 };
      ranged = f.1.1.0;
      listed = f.1.1.1.0;
      on_chain = f.1.1.1.1.0;
      had = f.1.1.1.1.1.0;
      due = f.1.1.1.1.1.1.0;
      unled = f.1.1.1.1.1.1.1.0;
      unanswerable = f.1.1.1.1.1.1.1.1.0;
    }

-- 7 while an exchange is open, whatever the call found
pub busy : (s : Session) (t : Tests) → is_closed s ≡ false → is_waiting s ≡ true → test_of s t ≡ Err Busy
unfolding test_of
busy s t c w = rw (c, w)
