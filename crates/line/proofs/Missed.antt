-- A Set Address that never arrived: "ask" alone is sent, nobody replies as the new node would, and all stays as it was.
use Prim.Native.Nat.{ℕ, ◌+◌, ◌-◌, ◌<◌}
use Rattle.std.specs.Prelude.{Ok, Some}
use Rattle.wire.specs.Numbers.{number_by}
use mathlib.Core.Bool.{Bool, false, true≢false}
use mathlib.Core.List.{List}
use mathlib.Core.Logic.{inl, inr}
use mathlib.Core.Option.{Option}
use mathlib.Core.Path.{◌≡◌, refl, sym, ap, ◌∙◌}
use native.Mathlib.Omega.{arith}
use lib.ListN.{length, take}
use Rattle.wire.proofs.Choice.{same}
use Rattle.wire.specs.declared.address.Address.{Address}
use Rattle.command.specs.declared.Command.{Command}
use Rattle.command.specs.declared.Command.TheVariants.{Nop}
use Rattle.status.specs.declared.Answer.{Answer}
use Rattle.status.specs.declared.Answer.TheVariants.{Clear, Marked, Silent}
use Rattle.node.specs.declared.state.Node.{Node}
use Rattle.node.specs.Setting.{place}
use Rattle.node.proofs.Laws.{nop_writes}
use Rattle.entry.specs.Entry.{knows}
use Rattle.session.specs.declared.Exchange.TheVariants.{Idle}
use Rattle.session.specs.declared.Session.{Session}
use Rattle.session.specs.Session.{node_at, entry_of}
use Rattle.sending.specs.Sending.{open_exchange}
use Rattle.sending.proofs.Sent.{opened_waits}
use Rattle.walk.proofs.Passing.{next_says}
use Rattle.walk.proofs.Sent.{next_went}
use Rattle.host.proofs.Passing.{order_says, regroup_says, baud_rate_says}
use Rattle.host.proofs.Sent.{order_went, regroup_went, baud_rate_went}
use Rattle.reports.specs.Report.{conclude_of}
use Rattle.calls.specs.declared.Call.{Call}
use Rattle.calls.specs.declared.Call.TheVariants.{Next, Ask, Order, Regroup}
use Rattle.calls.specs.declared.Call.TheVariants as call
use Rattle.calls.specs.Calls.{call_perform}
use Rattle.line.specs.History.{Sending, asks}
use Rattle.line.specs.Call.{what_of}
use Rattle.line.specs.Line.{reported_of, answer_in}
use Rattle.line.specs.Missed.{Left, OnlyPowerUp}
use Rattle.line.proofs.Due.{Due, next, ask, order, regroup, paces, call_sends}
use Rattle.line.proofs.Closing.{waiting_at, entry_at, due_opens, reported_concludes, due_waits}
use Rattle.line.proofs.Returning.{marked_returns, quiet_returns}
use Rattle.line.proofs.Invariant.{at, EdgeAt, Invariant, Answered, Exchanged}
use Rattle.line.proofs.Peace.{none_collided}
use Rattle.line.proofs.Walk.{nobody_answers}
use Rattle.line.proofs.Suits.{suits, taken}
use Rattle.line.proofs.Delivery.{exchanged}
use Rattle.line.proofs.Course.{when_idle, holds}

module _ (h : Session) (ns : List Node) (inv : Invariant h ns) (l : h.walk < h.n) (u : (at ns h.walk).addressed ≡ false) where
  -- nobody replies to "ask" as the node that the walk is at would
  unanswered : {v : ℕ} {did : ℕ → Bool} → Answered v (node_at (h.walk + 1)) ns did → ⊥
  unanswered o = go (inv.edge l)
    where
      go : EdgeAt (entry_at h h.walk) ns h.walk → ⊥
      go (inl p) = nobody_answers h ns inv l p o
      go (inr p) = true≢false (sym p.2 ∙ u)

  stays_out : {ms : List Node} {a : Answer} {v : ℕ} → Exchanged v (node_at (h.walk + 1)) Nop ns ms a → (a ≡ Clear → ⊥) × Left (at ns h.walk) (at ms h.walk)
  stays_out x =
      let b : Bool = x.did h.walk in
      let m : h.walk < length ns = omega (arith, inv.long) in (
        (λ e. unanswered (x.clear e)),
        record {
          settings = x.settings h.walk m ∙ same b (at ns h.walk).settings;
          unaddressed = x.addressed h.walk m ∙ same b (at ns h.walk).addressed ∙ u;
        },
      )

-- an "ask" that isn't confirmed leaves the session as it was
unconfirmed : (s : Session) (v : ℕ) → s.exchange ≡ Idle → (a : Answer) → (a ≡ Clear → ⊥)
    → conclude_of (waiting_at s v (node_at (s.walk + 1)) Nop) v (node_at (s.walk + 1)) Nop a ≡ s
unconfirmed s v e Clear n = absurd (n refl)
unconfirmed s v e Marked n = rw (opened_waits s v (node_at (s.walk + 1)) Nop refl) at (marked_returns s v (node_at (s.walk + 1)) Nop e refl)
unconfirmed s v e Silent n = rw (opened_waits s v (node_at (s.walk + 1)) Nop refl) at (quiet_returns Nop nop_writes s v (node_at (s.walk + 1)) e)

-- what "ask" sends, and what the report of whatever came leaves
asked : (s t : Session) (v : ℕ) (ns ms : List Node) (p : List ℕ) → Invariant s ns → s.exchange ≡ Idle → (at ns s.walk).addressed ≡ false
    → {called to : Address} {c : Command} → Due s (what_of Ask p) called to c → t ≡ open_exchange s v to c → (r : Option (List ℕ)) → Exchanged v called c ns ms (answer_in r)
    → ((reported_of t r).session ≡ s) × Left (at ns s.walk) (at ms s.walk)
asked s t v ns ms p inv idle u d f r x = go d refl f x
  where
    go : {what : Sending} {called to : Address} {c : Command} → Due s what called to c → what ≡ what_of Ask p → t ≡ open_exchange s v to c → Exchanged v called c ns ms (answer_in r)
        → ((reported_of t r).session ≡ s) × Left (at ns s.walk) (at ms s.walk)
    go (ask l k) e f x =
        let o = stays_out s ns inv l u x in
        let d : Due s (asks (s.walk + 1)) (node_at (s.walk + 1)) (node_at (s.walk + 1)) Nop = ask l k in
        let g : t ≡ waiting_at s v (node_at (s.walk + 1)) Nop = f ∙ due_opens d v in
        (rw g (reported_concludes d v inv.few inv.walked inv.full inv.begun r ∙ unconfirmed s v idle (answer_in r) o.0), o.1)
    go (next l k) e f x = absurd (true≢false (cc e))
    go (order w o n y z) e f x = absurd (true≢false (cc e))
    go (regroup w o n) e f x = absurd (true≢false (cc e))
    go (paces w n) e f x = absurd (true≢false (cc e))

-- no other call sends
alone : (s : Session) → s.walk < s.n → knows (entry_of s (s.walk + 1)) place ≡ false → (c : Call) (v : ℕ) (out : List ℕ) (n : ℕ)
    → (call_perform c s v out).answer.end ≡ Ok (Some n) → c ≡ Ask
alone s l d Next v out n e = absurd (true≢false (sym (next_says s v (next_went s v out (ap number_by e)).passed).placed ∙ d))
alone s l d Ask v out n e = refl
alone s l d (Order to c) v out n e = absurd (let k = (order_says s v to c (order_went s v out to c (ap number_by e)).passed).ended in omega arith)
alone s l d (Regroup i g leader) v out n e = absurd (let k = (regroup_says s v i g leader (regroup_went s v out i g leader (ap number_by e)).passed).ended in omega arith)
alone s l d (call.SetBaudRate g x) v out n e = absurd (let k = (baud_rate_says s v g x (baud_rate_went s v out g x (ap number_by e)).passed).ended in omega arith)

index : (k : ℕ) → k + 1 - 1 ≡ k
index k = omega arith

pub only_power_up_lem : OnlyPowerUp
only_power_up_lem w comes up idle m =
    let s = when_idle w.host w.nodes w.past w.line (holds comes up) idle in
    let i = s.inv in
    let u : (at w.nodes w.host.walk).addressed ≡ false = rw (index w.host.walk) at m.unaddressed in
    record {
      alone = alone w.host m.walking m.unconfirmed;
      same = λ v out n e q r arrives returns.
          let a = call_sends Ask tt refl w.host v out n e in
          let x = exchanged v a.called a.command w.nodes a.goes.range a.goes.fits a.typed (due_waits a.due) (taken a.due)
          (λ j l. suits a.due w.nodes i v j (omega (arith, i.long))) (none_collided w.host w.nodes i)
          (rw a.goes.packet at arrives) returns in
          rw (index w.host.walk) (asked w.host _ v w.nodes _ (take n (call_perform Ask w.host v out).left) i idle u a.due a.goes.after r x);
    }
