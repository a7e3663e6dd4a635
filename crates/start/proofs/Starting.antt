-- How a session starts: a valid one, and by a bad n the one that was handed in.
use Prim.Native.Nat.{ℕ, ◌<◌, ◌≤◌}
use Rattle.std.specs.Prelude.{Ok, None}
use mathlib.Core.Bool.{◌||◌, true}
use mathlib.Core.List.{List}
use mathlib.Core.Path.{◌≡◌, refl}
use native.Mathlib.Omega.{arith}
use lib.Dec.{ltb}
use borrow.Author.Tests.{lt-ltb, le-ltb, ltb-false}
use Rattle.wire.proofs.Choice.{neither}
use Rattle.wire.specs.declared.refusal.Refusal.TheVariants as refusal
use Rattle.wire.specs.declared.kind.Kind.{Kind}
use Rattle.ledger.specs.Ledger.{ledger_power_up}
use Rattle.ledger.proofs.Ledgers.{length_gates, length_up}
use Rattle.session.specs.declared.Exchange.TheVariants.{Idle}
use Rattle.session.specs.declared.Session.{Session}
use Rattle.session.specs.Session.{Valid, refuse_of}
use Rattle.session.proofs.Sessions.{valid_from, either, Stays, by_test}
use Rattle.start.specs.Start.{fresh_of, start_power_up}

pub fresh_valid : Valid fresh_of
fresh_valid = record { valid = valid_from fresh_of (omega arith) (omega arith) refl; whole = length_gates }

pub power_up_valid : (s : Session) (n : ℕ) (ks : List Kind) → Valid s → Valid (start_power_up s n ks).session
unfolding start_power_up
power_up_valid s n ks h =
    either (ltb n 1 || ltb 31 n) _ _ (λ e. h)
    (λ e. record { valid = valid_from _ (ltb-false 31 n (neither (ltb n 1) (ltb 31 n) e).1) (omega arith) refl; whole = length_up n ks })

pub power_up_stays : (s : Session) (n : ℕ) (ks : List Kind) → Stays s (start_power_up s n ks)
unfolding start_power_up
power_up_stays s n ks = by_test (ltb n 1 || ltb 31 n) s refusal.Range _ (λ z. absurd (z refl))

-- power-up with a good n, and with a bad one
pub powered_good : (s : Session) (n : ℕ) (ks : List Kind) → 1 ≤ n → n ≤ 31
    → start_power_up s n ks ≡ record { end = Ok None; session = record { started = true; n = n; walk = 0; exchange = Idle; entries = ledger_power_up n ks } }
unfolding start_power_up
powered_good s n ks p q = rw (le-ltb n 1 p, le-ltb 31 n q)

pub powered_none : (s : Session) (ks : List Kind) → start_power_up s 0 ks ≡ refuse_of s refusal.Range
unfolding start_power_up
powered_none s ks = refl

pub powered_many : (s : Session) (n : ℕ) (ks : List Kind) → 31 < n → start_power_up s n ks ≡ refuse_of s refusal.Range
unfolding start_power_up
powered_many s n ks p = rw (le-ltb n 1 (omega arith), lt-ltb 31 n p)
