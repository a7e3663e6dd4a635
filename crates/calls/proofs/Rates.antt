-- Document 02, request 7: Set Baud Rate "ends the walk" of a recording, as no call that is looked for gives its bytes.
use Prim.Native.Nat.{ℕ}
use mathlib.Core.Bool.{false, true≢false}
use mathlib.Core.List.{List}
use mathlib.Core.Path.{◌≡◌, refl, sym, ap, ◌∙◌}
use Rattle.wire.specs.Numbers.{done}
use Rattle.wire.specs.declared.address.Address.{Address}
use Rattle.wire.specs.declared.kind.Kind.TheVariants.{Gate}
use Rattle.packet.specs.Packet.{data_part}
use Rattle.command.specs.declared.Command.{Command}
use Rattle.command.specs.declared.Command.TheVariants.{SetBaudRate}
use Rattle.command.specs.Role.{role_of, is_pacing}
use Rattle.codec.specs.Reading.{ReadsAs}
use Rattle.codec.proofs.Commands.{shared_alike}
use Rattle.node.specs.Effect.{divisor_up}
use Rattle.session.specs.declared.Session.{Session}
use Rattle.session.specs.Session.{step_number}
use Rattle.host.proofs.Passing.{order_says}
use Rattle.host.proofs.Sent.{order_went}
use Rattle.calls.specs.declared.Call.{Call}
use Rattle.calls.specs.declared.Call.TheVariants.{Next, Ask, Order, Regroup}
use Rattle.calls.specs.declared.Call.TheVariants as call
use Rattle.calls.specs.Calls.{call_perform, sets_rate, Unsendable}
use Rattle.calls.proofs.Standing.{call_went}
use Rattle.calls.proofs.Twice.{had, went_by, reads_back, one_command, sent_done}

-- no other call sends one
unpaced_sends : (k : Call) (s : Session) (out : List ℕ) (d : step_number (call_perform k s divisor_up out).answer ≡ done) → sets_rate k ≡ false
    → is_pacing (role_of (call_went k s divisor_up out d).command) ≡ false
unfolding call_went
unpaced_sends Next s out d h = refl
unpaced_sends Ask s out d h = refl
unpaced_sends (Order to c) s out d h = (order_says s divisor_up to c (order_went s divisor_up out to c d).passed).unpacing
unpaced_sends (Regroup i g leader) s out d h = refl
unpaced_sends (call.SetBaudRate g v) s out d h = absurd (true≢false h)

-- bytes that read as a Set Baud Rate, to any address
pub rate_unsendable : (s : Session) (p : List ℕ) (a : Address) (v n : ℕ) → ReadsAs Gate p a (SetBaudRate v) n → Unsendable s p
rate_unsendable s p a v n r k g =
    let w = went_by g in
    let h = had w.command in
    let q : ReadsAs h.kind p a (SetBaudRate v) n =
    record { command = r.command; whole = r.whole; known = shared_alike Gate h.kind r.command (data_part p) (SetBaudRate v) refl r.known } in
    let e : w.command ≡ SetBaudRate v = one_command (reads_back g w h.kind h.by) q in
    true≢false (sym (ap (λ (c : Command). is_pacing (role_of c)) e) ∙ unpaced_sends k s g.out (sent_done g.count g.sent) g.unpaced)
