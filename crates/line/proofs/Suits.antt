-- Whoever acts on what the host sends has it among the commands of its kind, and heeds it: 17 has kept it from all others, and the host gives no address 0x00.
use Prim.Native.Nat.{ℕ, suc, ◌+◌, ◌<◌}
use mathlib.Core.Bool.{Bool, true, false, true≢false}
use mathlib.Core.List.{List}
use mathlib.Core.Path.{◌≡◌, refl, sym, ap, ◌∙◌}
use native.Mathlib.Omega.{arith}
use Rattle.wire.specs.declared.kind.Kind.{Kind}
use Rattle.wire.specs.declared.address.Address.{Address}
use Rattle.wire.specs.declared.address.Address.TheVariants as address
use Rattle.command.specs.declared.Command.{Command}
use Rattle.command.specs.Owner.{has}
use Rattle.command.specs.Role.{role_of, is_pacing}
use Rattle.message.specs.Message.{is_taken}
use Rattle.node.specs.declared.state.Node.{Node}
use Rattle.node.proofs.Laws.{unplaced_heeds, placed_heeds}
use Rattle.entry.specs.declared.Reach.{Reach}
use Rattle.entry.specs.declared.Reach.TheVariants.{Misses, Hits, May}
use Rattle.ledger.specs.Ledger.{blank_entry, reach_of, may_reach}
use Rattle.ledger.proofs.Ledgers.{had_says}
use Rattle.session.specs.declared.Session.{Session}
use Rattle.session.specs.Session.{given_place}
use Rattle.line.specs.History.{Sending}
use Rattle.line.proofs.Due.{Due, next, ask, order, regroup, paces}
use Rattle.line.proofs.Closing.{entry_at}
use Rattle.line.proofs.Sound.{Fits}
use Rattle.line.proofs.Invariant.{at, Invariant, acts}
use Rattle.line.proofs.Ready.{fits_ready}
use Rattle.line.proofs.Delivery.{Suits}

-- whoever acts is one that the host counts as reached
reached : (r : Reach) (b : Bool) → Fits r b → b ≡ true → may_reach r ≡ true
reached Misses b f e = absurd (true≢false (sym e ∙ f))
reached Hits b f e = refl
reached May b f e = refl

by_address : (to : Address) (c : Command) → is_pacing (role_of c) ≡ false → is_taken to c ≡ true
by_address (address.Individual i) c z = rw z
by_address (address.Group g) c z = refl

pub suits : {h : Session} {what : Sending} {called to : Address} {c : Command} → Due h what called to c → (ns : List Node) → Invariant h ns
    → (v i : ℕ) → i < h.n → acts v called ns i ≡ true → Suits c (at ns i)
suits {h} (next l k) ns inv v i p e = (refl, placed_heeds (at ns i).kind (given_place (h.walk + 1)) (omega arith))
suits (ask l k) ns inv v i p e = (refl, refl)
suits {h} {to = to} {c = c} (order w o f y z) ns inv v i p e =
    let r = reached (reach_of to (suc i) (entry_at h i)) (acts v to ns i) (fits_ready h ns inv w v to i p (acts v to ns i) (λ a. a)) e in
    let g = had_says to c h.n h.entries blank_entry inv.few y i p (omega (arith, inv.few, inv.full)) r in
    (sym (ap (λ (k : Kind). has k c) (inv.kinds i p)) ∙ g, unplaced_heeds (at ns i).kind c f)
suits (regroup {i = n} {g = g} {leader = leader} w o f) ns inv v i p e = (refl, placed_heeds (at ns i).kind (record { address = n; group = g; leader = leader }) o.low)
suits (paces w f) ns inv v i p e = (refl, refl)

-- and takes it under the address that is called
pub taken : {h : Session} {what : Sending} {called to : Address} {c : Command} → Due h what called to c → is_taken called c ≡ true
taken (next l k) = refl
taken (ask l k) = refl
taken {c = c} (order {to = to} w o f y z) = by_address to c z
taken (regroup w o f) = refl
taken (paces w f) = refl
