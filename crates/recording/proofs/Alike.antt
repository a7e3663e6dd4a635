-- Alike sessions: whatever comes next, the host makes the same of it. So it makes no difference which of two calls is found for some bytes.
use Prim.Native.Nat.{ℕ}
use mathlib.Core.Bool.{Bool, true, false, cond}
use mathlib.Core.List.{List, [], ◌∷◌}
use mathlib.Core.Path.{◌≡◌, refl, sym, ap, ◌∙◌}
use borrow.Author.Tests.{le-ltb}
use native.Mathlib.Omega.{arith}
use Rattle.wire.specs.declared.address.Address.{Address}
use Rattle.wire.specs.declared.address.Address.TheVariants as address
use Rattle.command.specs.declared.Command.{Command}
use Rattle.command.specs.declared.Command.TheVariants.{SetBaudRate}
use Rattle.status.specs.declared.Answer.{Answer}
use Rattle.status.specs.declared.Answer.TheVariants.{Clear, Marked, Silent}
use Rattle.status.specs.Status.{judge_of}
use Rattle.ledger.proofs.Ledgers.{settled_unreached}
use Rattle.session.specs.declared.Session.{Session}
use Rattle.session.specs.Session.{is_valid, is_closed}
use Rattle.reports.specs.Report.{is_on_walk, is_giving, is_asking, idle_at, noted_of, is_telling, told_by, conclude_of, finish_of, report_of}
use Rattle.calls.specs.Alike.{awaiting, is_reaching, Alike, same, unreached}
use Rattle.calls.specs.Finding.{by_source, find_of}
use Rattle.capture.specs.Steps.{Recorded, sent, got}
use Rattle.recording.specs.Recording.{quiet_of, follow_of}
use Rattle.std.specs.Prelude.{Ok}
use Rattle.recording.specs.declared.Ending.TheVariants.{Ended, Foreign}

by_either : {A : Type 0} (b : Bool) {x y z : A} → x ≡ z → y ≡ z → cond b x y ≡ z
by_either true p q = p
by_either false p q = q

module _ (s : Session) (at : ℕ) (to : Address) (c : Command) (e : s.walk ≡ s.n) (u : is_reaching s to ≡ false) where
  -- a ready session's exchange is not the walk's
  off_walk : (x : Address) → is_on_walk (awaiting s at to c) x ≡ false
  off_walk (address.Individual i) = rw (le-ltb s.walk s.n (omega (arith, e)))
  off_walk (address.Group g) = refl

  -- where no node may be reached, an exchange leaves the session with none open, and as it was
  noted : (a : Answer) → noted_of (awaiting s at to c) to c a ≡ idle_at s s.walk s.entries
  unfolding noted_of is_giving is_asking
  noted Marked = refl
  noted Silent = ap (idle_at s s.walk) (settled_unreached Silent to c s.n s.entries u)
  noted Clear = rw (off_walk to, settled_unreached Clear to c s.n s.entries u)

  told : (a : Answer) → told_by a (idle_at s s.walk s.entries) at to ≡ idle_at s s.walk s.entries
  told Marked = refl
  told Silent = refl
  told Clear = ap (idle_at s s.walk) (settled_unreached Clear to (SetBaudRate at) s.n s.entries u)

  concluded : (a : Answer) → conclude_of (awaiting s at to c) at to c a ≡ idle_at s s.walk s.entries
  unfolding conclude_of
  concluded a = by_either (is_telling to c) (ap (λ (t : Session). told_by a t at to) (noted a) ∙ told a) (noted a)

  finished : is_closed (awaiting s at to c) ≡ false → (a : Answer) → (finish_of (awaiting s at to c) a).session ≡ idle_at s s.walk s.entries
  unfolding finish_of
  finished o a = rw o (concluded a)

-- reports leave the same session
pub alike_finishes : {s t : Session} → Alike s t → (a : Answer) → (finish_of s a).session ≡ (finish_of t a).session
unfolding is_closed is_valid
alike_finishes (same s) a = refl
alike_finishes (unreached s at to c d o e u) a = finished s at to c e u o a ∙ sym (finished s at to d e u o a)

alike_quiet : {s t : Session} → Alike s t → quiet_of s ≡ quiet_of t
unfolding quiet_of
alike_quiet h = alike_finishes h Silent

-- and so does the rest of a walk
pub alike_follows : {s t : Session} → Alike s t → (ps : List Recorded) → follow_of s ps ≡ follow_of t ps
unfolding report_of
alike_follows h [] = ap (λ (x : Session). record { ending = Ok Ended; session = x }) (alike_quiet h)
alike_follows h (sent p ∷ ps) =
    ap (λ (x : Session). by_source (find_of x p.bytes).source (follow_of (find_of x p.bytes).session ps) (record { ending = Ok Foreign; session = x })) (alike_quiet h)
alike_follows h (got p ∷ ps) = ap (λ (x : Session). follow_of x ps) (alike_finishes h (judge_of p.bytes))
