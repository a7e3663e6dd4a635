-- What any of the calls comes to: sent, its exchange is opened, as far as a Hard Reset has one; else the session is as it was.
use Prim.Native.Nat.{ℕ, ◌+◌}
use Rattle.std.specs.Prelude.{Ok, Some, None}
use mathlib.Core.Bool.{Bool, true, false, cond, true≢false, false≢true}
use mathlib.Core.List.{List}
use mathlib.Core.Path.{◌≡◌, refl, sym, ap, subst, ◌∙◌}
use Rattle.wire.specs.Numbers.{done, number_by}
use native.Mathlib.Omega.{arith}
use lib.Dec.{eqb}
use borrow.Author.Tests.{ne_eqb}
use Rattle.wire.specs.Promise.{Outcome}
use Rattle.wire.specs.Address.{in_range}
use Rattle.wire.proofs.Impossible.{impossible}
use Rattle.wire.specs.declared.address.Address.{Address}
use Rattle.wire.specs.declared.address.Address.TheVariants as address
use Rattle.wire.specs.declared.kind.Kind.{Kind}
use Rattle.command.specs.declared.Command.{Command}
use Rattle.command.specs.declared.Command.TheVariants.{SetAddress, Nop}
use Rattle.command.specs.declared.Command.TheVariants as command
use Rattle.command.specs.Role.{role_of, is_reset}
use Rattle.command.specs.Owner.{has}
use Rattle.command.specs.Ranges.{fits_of}
use Rattle.codec.specs.Build.{Typed}
use Rattle.codec.proofs.Commands.{unplaced_typed}
use Rattle.node.specs.Effect.{address_up}
use Rattle.session.specs.declared.Session.{Session}
use Rattle.session.specs.declared.Step.{Step}
use Rattle.session.specs.Session.{node_at, given_place, off_chain, step_number}
use Rattle.session.proofs.Sessions.{on_chain_lem}
use Rattle.sending.specs.Sending.{open_exchange}
use Rattle.sending.proofs.Passing.{Free}
use Rattle.sending.proofs.Sent.{sending, Sends, node_fits, opened_reset, opened_waits}
use Rattle.walk.proofs.Passing.{next_says, ask_says}
use Rattle.walk.proofs.Sent.{next_sent, ask_sent, next_went, ask_went}
use Rattle.walk.proofs.Stands.{next_stands, ask_stands}
use Rattle.host.proofs.Passing.{OrderPasses, order_says, regroup_says, baud_rate_says}
use Rattle.host.proofs.Sent.{to_fits, order_sent, regroup_sent, baud_rate_sent, order_went, regroup_went, baud_rate_went}
use Rattle.host.proofs.Stands.{order_stands, regroup_stands, baud_rate_stands}
use Rattle.calls.specs.declared.Call.{Call}
use Rattle.calls.specs.declared.Call.TheVariants.{Next, Ask, Order, Regroup, SetBaudRate}
use Rattle.calls.specs.Calls.{call_perform, TypedCall}

-- whom a packet to this address is about: on the walk, what goes to address 0x00 is for the next node
abbrev pub about_of : Session → Address → Address
about_of s (address.Individual i) = cond (eqb i.0 address_up) (node_at (s.walk + 1)) (address.Individual i)
about_of s (address.Group g) = address.Group g

pub about_on_chain : (s : Session) (to : Address) → off_chain s.n to ≡ false → to ≡ about_of s to
about_on_chain s (address.Individual i) h =
    let low = (on_chain_lem s.n i h).low in
    rw (ne_eqb i.0 address_up (λ e. omega arith))
about_on_chain s (address.Group g) h = refl

-- a call with number 0: a command went out, in a session that was free to send; address and command are of their ranges, and go out with any buffer that has room;
-- a command that a kind of node lacks is an order's
pub record CallWent (k : Call) (s : Session) (at : ℕ) (out : List ℕ) : Type 0 where
  pub called : Address
  pub to : Address
  pub command : Command
  pub about : to ≡ about_of s called
  pub free : Free s
  pub ranged : in_range called ≡ true
  pub fits : fits_of command ≡ true
  pub typed : TypedCall k → Typed command
  pub own : (kind : Kind) → has kind command ≡ false → (to ≡ called) × OrderPasses s at called command
  pub sends : (o : List ℕ) → Sends s at called to command o (call_perform k s at o)
  pub result : call_perform k s at out ≡ sending s at called to command out

unfoldable pub call_went : (k : Call) (s : Session) (at : ℕ) (out : List ℕ) → step_number (call_perform k s at out).answer ≡ done → CallWent k s at out
call_went Next s at out d =
    let w = next_went s at out d in
    let t = next_says s at w.passed in
    let h = t.walking in
    record {
      called = node_at address_up;
      to = node_at (s.walk + 1);
      command = SetAddress (given_place (s.walk + 1));
      about = refl;
      free = t.session;
      ranged = refl;
      fits = rw (node_fits s.n (s.walk + 1) t.session.valid.few (omega arith));
      typed = λ u. omega arith;
      own = λ kind e. absurd (true≢false e);
      sends = λ o. next_sent s at o w.passed;
      result = w.result;
    }
call_went Ask s at out d =
    let w = ask_went s at out d in
    let t = ask_says s at w.passed in
    let h = t.walking in
    record {
      called = node_at (s.walk + 1);
      to = node_at (s.walk + 1);
      command = Nop;
      about = rw (ne_eqb (s.walk + 1) address_up (λ e. omega arith));
      free = t.session;
      ranged = node_fits s.n (s.walk + 1) t.session.valid.few (omega arith);
      fits = refl;
      typed = λ u. tt;
      own = λ kind e. absurd (true≢false e);
      sends = λ o. ask_sent s at o w.passed;
      result = w.result;
    }
call_went (Order to c) s at out d =
    let w = order_went s at out to c d in
    let t = order_says s at to c w.passed in
    record {
      called = to;
      to = to;
      command = c;
      about = about_on_chain s to t.node;
      free = t.session;
      ranged = to_fits s.n to t.session.valid.few t.group t.node;
      fits = t.fits;
      typed = λ u. unplaced_typed c t.ordinary;
      own = λ kind e. (refl, t);
      sends = λ o. order_sent s at to c o w.passed;
      result = w.result;
    }
call_went (Regroup i g leader) s at out d =
    let w = regroup_went s at out i g leader d in
    let t = regroup_says s at i g leader w.passed in
    let f = node_fits s.n i.0 t.session.valid.few t.node.high in
    record {
      called = address.Individual i;
      to = address.Individual i;
      command = SetAddress (record { address = i; group = g; leader = leader });
      about = let low = t.node.low in rw (ne_eqb i.0 address_up (λ e. omega arith));
      free = t.session;
      ranged = f;
      fits = rw (f, t.group);
      typed = λ u. u;
      own = λ kind e. absurd (true≢false e);
      sends = λ o. regroup_sent s at i g leader o w.passed;
      result = w.result;
    }
call_went (SetBaudRate g v) s at out d =
    let w = baud_rate_went s at out g v d in
    let t = baud_rate_says s at g v w.passed in
    record {
      called = address.Group g;
      to = address.Group g;
      command = command.SetBaudRate v;
      about = refl;
      free = t.session;
      ranged = t.group;
      fits = refl;
      typed = λ u. tt;
      own = λ kind e. absurd (true≢false e);
      sends = λ o. baud_rate_sent s at g v o w.passed;
      result = w.result;
    }

-- no call has number 0 and sends nothing
pub call_not_done : (k : Call) (s : Session) (at : ℕ) (out : List ℕ) → (call_perform k s at out).answer.end ≡ Ok None → ⊥
call_not_done k s at out e = impossible (cc (e, ap (λ (o : Outcome Step (List ℕ)). o.answer.end) (call_went k s at out (ap number_by e)).result))

-- a call that doesn't send leaves the session as it was
pub call_stays : (k : Call) (s : Session) (at : ℕ) (out : List ℕ) → (step_number (call_perform k s at out).answer ≡ done → ⊥) → (call_perform k s at out).answer.session ≡ s
call_stays Next s at out f = (next_stands s at out f).0
call_stays Ask s at out f = (ask_stands s at out f).0
call_stays (Order to c) s at out f = (order_stands s at out to c f).0
call_stays (Regroup i g leader) s at out f = (regroup_stands s at out i g leader f).0
call_stays (SetBaudRate g v) s at out f = (baud_rate_stands s at out g v f).0

-- a session that has sent isn't free to send: it waits, or a Hard Reset has closed it
opened_by : (b : Bool) (s : Session) (at : ℕ) (to : Address) (c : Command) → is_reset (role_of c) ≡ b → Free (open_exchange s at to c) → ⊥
opened_by true s at to c e f = false≢true (sym (ap (λ (t : Session). t.started) (opened_reset s at to c e)) ∙ f.started)
opened_by false s at to c e f = impossible (cc (ap (λ (t : Session). t.exchange) (opened_waits s at to c e), f.idle))

pub sent_not_free : (k : Call) (s : Session) (at : ℕ) (out : List ℕ) (n : ℕ) → (call_perform k s at out).answer.end ≡ Ok (Some n) → Free (call_perform k s at out).answer.session → ⊥
sent_not_free k s at out n e f =
    let w = call_went k s at out (ap number_by e) in
    opened_by (is_reset (role_of w.command)) s at w.to w.command refl (subst Free (ap (λ (o : Outcome Step (List ℕ)). o.answer.session) w.result) f)
