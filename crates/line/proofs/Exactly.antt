-- The host's whole record against what was sent and answered. It needs no premise about the line: it is the host's own.
use Prim.Native.Nat.{ℕ, suc, ◌<◌}
use mathlib.Core.Bool.{true, false}
use mathlib.Core.List.{List, ◌∷◌}
use mathlib.Core.Path.{◌≡◌, refl}
use native.Mathlib.Omega.{arith}
use Rattle.wire.specs.declared.address.Address.{Address}
use Rattle.wire.specs.declared.address.Address.TheVariants as address
use Rattle.command.specs.declared.Command.{Command}
use Rattle.command.specs.declared.Command.TheVariants.{Nop}
use Rattle.status.specs.declared.Answer.{Answer}
use Rattle.status.specs.declared.Answer.TheVariants.{Clear, Marked, Silent}
use Rattle.node.specs.Setting.{place}
use Rattle.node.specs.Effect.{effect, writes}
use Rattle.node.proofs.Laws.{nop_writes}
use Rattle.entry.specs.Entry.{note_of}
use Rattle.entry.proofs.Entries.{quiet_noted}
use Rattle.ledger.specs.Ledger.{reach_of}
use Rattle.session.specs.declared.Session.{Session}
use Rattle.line.specs.History.{Sending, gives, asks, sends, Counted, counts_as}
use Rattle.line.proofs.Exact.{Exact, is_clear, Counts, Sendable, exact_step}
use Rattle.line.proofs.Due.{Due, next, ask, order, regroup, paces}
use Rattle.line.proofs.Closing.{entry_at, Concluded, settles, walk_on}

-- what counts of a command and its answer, but for the divisor that a Nop tells (Telling)
abbrev pub noted : Sending → Answer → List Counted → List Counted
noted what Clear past = counts_as what true ∷ past
noted what Marked past = past
noted (gives k) Silent past = counts_as (gives k) false ∷ past
noted (asks k) Silent past = past
noted (sends to c) Silent past = counts_as (sends to c) false ∷ past

abbrev pub Exactly : Session → List Counted → Type 0
Exactly h past = (i : ℕ) → i < h.n → Exact (entry_at h i) past (suc i)

-- an answered command, by what its answer makes of it
module _ (h t : Session) (past : List Counted) (x : Exactly h past) (to : Address) (c : Command) (w : ℕ) where
  counts : (a : Answer) → Counts a → Sendable to c → Concluded h a to c w t → Exactly t (record { to = to; command = c; clear = is_clear a } ∷ past)
  counts a u s k i l =
      let m : i < h.n = omega (arith, k.nodes) in
      rw (k.entry i m) (exact_step a u to c s (entry_at h i) past (suc i) (x i m))

  unsent : (a : Answer) → ((i : ℕ) → note_of a (reach_of to (suc i) (entry_at h i)) c (entry_at h i) ≡ entry_at h i) → Concluded h a to c w t → Exactly t past
  unsent a s k i l =
      let m : i < h.n = omega (arith, k.nodes) in
      rw (k.entry i m, s i) (x i m)

  answered : (a : Answer) → Sendable to c → Concluded h a to c w t → Exactly t (noted (sends to c) a past)
  answered Clear s k = counts Clear tt s k
  answered Marked s k = unsent Marked (λ i. refl) k
  answered Silent s k = counts Silent tt s k

sendable : (to : Address) (c : Command) → writes (effect c place) ≡ false → Sendable to c
sendable (address.Individual i) c e = tt
sendable (address.Group g) c e = e

pub exactly_step : {h : Session} {what : Sending} {called to : Address} {c : Command} → Due h what called to c
    → (t : Session) (past : List Counted) → Exactly h past → (a : Answer) → Concluded h a to (settles what a c) (walk_on what a h.walk) t
    → Exactly t (noted what a past)
exactly_step {h} (next l n) t past x Clear k = counts h t past x _ _ _ Clear tt tt k
exactly_step {h} (next l n) t past x Marked k = unsent h t past x _ _ _ Marked (λ i. refl) k
exactly_step {h} (next l n) t past x Silent k = counts h t past x _ _ _ Silent tt tt k
exactly_step {h} (ask l n) t past x Clear k = counts h t past x _ _ _ Clear tt tt k
exactly_step {h} (ask l n) t past x Marked k = unsent h t past x _ _ _ Marked (λ i. refl) k
exactly_step {h} {to = to} (ask l n) t past x Silent k = unsent h t past x to Nop _ Silent (λ i. quiet_noted Nop nop_writes Silent (reach_of to (suc i) (entry_at h i)) (entry_at h i)) k
exactly_step {h} {to = to} {c = c} (order w o e y z) t past x a k = answered h t past x to c h.walk a (sendable to c e) k
exactly_step {h} {to = to} {c = c} (regroup w o f) t past x a k = answered h t past x to c h.walk a tt k
exactly_step {h} {to = to} {c = c} (paces w f) t past x a k = answered h t past x to c h.walk a refl k
