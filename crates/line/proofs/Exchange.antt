-- Every exchange, from the call to the report, keeps the invariant.
use Prim.Native.Nat.{ℕ, ◌+◌, ◌-◌}
use mathlib.Core.Bool.{true}
use mathlib.Core.List.{List}
use mathlib.Core.Path.{◌≡◌, refl, ap}
use native.Mathlib.Omega.{arith}
use lib.ListN.{get_or}
use Rattle.wire.specs.declared.address.Address.{Address}
use Rattle.command.specs.declared.Command.{Command}
use Rattle.command.specs.Ranges.{fits_of}
use Rattle.status.specs.declared.Answer.{Answer}
use Rattle.node.specs.declared.state.Node.{Node}
use Rattle.ledger.specs.Ledger.{blank_entry}
use Rattle.session.specs.declared.Session.{Session}
use Rattle.session.specs.Session.{entry_of}
use Rattle.line.specs.History.{Sending}
use Rattle.line.proofs.Due.{Due, next, ask, order, regroup, paces}
use Rattle.line.proofs.Closing.{entry_at, walk_on, settles, Concluded}
use Rattle.line.proofs.Invariant.{Invariant, Exchanged}
use Rattle.line.proofs.Ready.{order_step, regroup_step}
use Rattle.line.proofs.Walk.{next_step, ask_step}

next_entry : (h : Session) → entry_of h (h.walk + 1) ≡ entry_at h h.walk
next_entry h = let e : h.walk + 1 - 1 ≡ h.walk = omega arith in ap (λ (i : ℕ). get_or h.entries i blank_entry) e

pub exchange_step : {h : Session} {what : Sending} {called to : Address} {c : Command} → Due h what called to c → fits_of c ≡ true
    → (t : Session) (ns ms : List Node) → Invariant h ns → (a : Answer) → {v : ℕ} → Exchanged v called c ns ms a
    → Concluded h a to (settles what a c) (walk_on what a h.walk) t → Invariant t ms
exchange_step {h} (next l k) fits t ns ms inv a {v} x = next_step h t ns ms inv l (rw (next_entry h) at k) a v x fits
exchange_step {h} (ask l k) fits t ns ms inv a {v} x = ask_step h t ns ms inv l a v x
exchange_step {h} {to = to} {c = c} (order w o e y z) fits t ns ms inv a {v} x = λ k. order_step h ns inv w ms t v to c a x k fits e
exchange_step {h} (regroup {i = i} {g = g} {leader = leader} w o f) fits t ns ms inv a {v} x = regroup_step h ns ms inv w t v i g leader a f x fits
exchange_step {h} {to = to} {c = c} (paces w f) fits t ns ms inv a {v} x = λ k. order_step h ns inv w ms t v to c a x k fits refl
