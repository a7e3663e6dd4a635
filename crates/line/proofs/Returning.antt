-- A command sent and answered, after which the host's session is as it was before.
use Prim.Native.Nat.{ℕ}
use mathlib.Core.Bool.{false}
use mathlib.Core.List.{List}
use mathlib.Core.Path.{◌≡◌, sym, ap, ◌∙◌}
use Rattle.wire.specs.declared.address.Address.{Address}
use Rattle.command.specs.declared.Command.{Command}
use Rattle.command.specs.Role.{role_of, is_reset}
use Rattle.status.specs.declared.Answer.TheVariants.{Marked, Silent}
use Rattle.entry.specs.declared.Entry.{Entry}
use Rattle.node.specs.Setting.{place}
use Rattle.node.proofs.Laws.{not_reset}
use Rattle.entry.specs.Entry.{Quiet}
use Rattle.ledger.proofs.Ledgers.{settled_quiet}
use Rattle.session.specs.declared.Exchange.{Exchange}
use Rattle.session.specs.declared.Exchange.TheVariants.{Idle}
use Rattle.session.specs.declared.Session.{Session}
use Rattle.sending.specs.Sending.{open_exchange}
use Rattle.sending.proofs.Sent.{opened_waits}
use Rattle.reports.specs.Report.{idle_at, conclude_of}
use Rattle.reports.proofs.Concluding.{marked_noted, silent_noted, marked_is, silent_is}
use Rattle.line.proofs.Closing.{waiting_at}

idle_again : (s : Session) → s.exchange ≡ Idle → idle_at s s.walk s.entries ≡ s
idle_again s e = ap (λ (x : Exchange). record { started = s.started; n = s.n; walk = s.walk; exchange = x; entries = s.entries }) (sym e)

-- by a good reply that isn't clear: the command counts as unsent, so "next" gives the same address again
pub marked_returns : (s : Session) (v : ℕ) (to : Address) (c : Command) → s.exchange ≡ Idle → is_reset (role_of c) ≡ false → conclude_of (open_exchange s v to c) v to c Marked ≡ s
marked_returns s v to c e h =
    ap (λ (t : Session). conclude_of t v to c Marked) (opened_waits s v to c h) ∙ marked_noted (waiting_at s v to c) v to c ∙ marked_is (waiting_at s v to c) to c ∙ idle_again s e

-- a command that writes no setting by silence too, so that "ask" may follow as often as wanted
pub quiet_returns : (c : Command) → Quiet c → (s : Session) (v : ℕ) (to : Address) → s.exchange ≡ Idle → conclude_of (open_exchange s v to c) v to c Silent ≡ s
quiet_returns c q s v to e =
    ap (λ (t : Session). conclude_of t v to c Silent) (opened_waits s v to c (not_reset c (q place))) ∙ silent_noted (waiting_at s v to c) v to c ∙ silent_is (waiting_at s v to c) to c
    ∙ ap (λ (es : List Entry). idle_at s s.walk es) (settled_quiet c q Silent to s.n s.entries) ∙ idle_again s e
