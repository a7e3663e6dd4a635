-- What may be sent while a session is open: the address that is called, whose record it is, and the command.
use Prim.Native.Nat.{ℕ, ◌+◌, ◌<◌}
use Rattle.std.specs.Prelude.{Ok, Some}
use Rattle.wire.specs.Numbers.{number_by}
use mathlib.Core.Bool.{Bool, true, false}
use mathlib.Core.List.{List, ◌++◌}
use mathlib.Core.Path.{◌≡◌, refl, sym, ap, ◌∙◌}
use native.Mathlib.Omega.{arith}
use lib.ListN.{length, take, drop}
use lib.Seq.{take-append_seam}
use Rattle.wire.specs.Promise.{Outcome}
use Rattle.wire.specs.Address.{in_range}
use Rattle.wire.specs.declared.address.Individual.{Individual}
use Rattle.wire.specs.declared.address.Group.{Group}
use Rattle.wire.specs.declared.address.Address.{Address}
use Rattle.wire.specs.declared.address.Address.TheVariants as address
use Rattle.command.specs.declared.Command.{Command}
use Rattle.command.specs.declared.Command.TheVariants.{SetAddress, SetBaudRate, Nop}
use Rattle.command.specs.Role.{role_of, is_placing, is_pacing, is_reset}
use Rattle.codec.proofs.Commands.{unplaced_typed}
use Rattle.command.specs.Ranges.{fits_of}
use Rattle.codec.specs.Build.{Typed, packet_for}
use Rattle.node.specs.Setting.{place}
use Rattle.node.specs.Effect.{address_up, effect, writes}
use Rattle.node.proofs.Laws.{place_writes}
use Rattle.entry.specs.Entry.{knows}
use Rattle.ledger.specs.Ledger.{is_led, is_lacked, is_answerable}
use Rattle.session.specs.declared.Session.{Session}
use Rattle.session.specs.declared.Step.{Step}
use Rattle.session.specs.Session.{off_chain, entry_of, node_at, given_place}
use Rattle.sending.specs.Sending.{open_exchange}
use Rattle.session.proofs.Sessions.{OnChain}
use Rattle.sending.proofs.Passing.{Free}
use Rattle.walk.proofs.Passing.{next_says, ask_says}
use Rattle.host.proofs.Passing.{order_says, regroup_says, baud_rate_says, wish_free}
use Rattle.sending.proofs.Sent.{sending, node_fits}
use Rattle.walk.proofs.Sent.{next_went, ask_went}
use Rattle.host.proofs.Sent.{to_fits, order_went, regroup_went, baud_rate_went}
use Rattle.calls.specs.declared.Call.{Call}
use Rattle.calls.specs.declared.Call.TheVariants.{Next, Ask, Order, Regroup}
use Rattle.calls.specs.declared.Call.TheVariants as call
use Rattle.calls.specs.Calls.{call_perform, TypedCall}
use Rattle.line.specs.History.{Sending, gives, asks, sends}
use Rattle.line.specs.Call.{what_of, resets}

-- all but a Hard Reset, which opens no exchange
pub data Due (h : Session) : Sending → Address → Address → Command → Type 0 where
  next : h.walk < h.n → knows (entry_of h (h.walk + 1)) place ≡ true
      → Due h (gives (h.walk + 1)) (node_at address_up) (node_at (h.walk + 1)) (SetAddress (given_place (h.walk + 1)))
  ask : h.walk < h.n → knows (entry_of h (h.walk + 1)) place ≡ false
      → Due h (asks (h.walk + 1)) (node_at (h.walk + 1)) (node_at (h.walk + 1)) Nop
  order : {to : Address} {c : Command} → h.walk ≡ h.n → off_chain h.n to ≡ false → writes (effect c place) ≡ false → is_lacked to c h.n h.entries ≡ false
      → is_pacing (role_of c) ≡ false → Due h (sends to c) to to c
  regroup : {i : Individual} {g : Group} {leader : Bool} → h.walk ≡ h.n → OnChain h.n i
      → (leader ≡ true → is_led i.0 g h.n h.entries ≡ false)
      → Due h (sends (address.Individual i) (SetAddress (record { address = i; group = g; leader = leader }))) (address.Individual i) (address.Individual i)
      (SetAddress (record { address = i; group = g; leader = leader }))
  paces : {g : Group} {d : ℕ} → h.walk ≡ h.n → is_answerable g h.n h.entries ≡ false
      → Due h (sends (address.Group g) (SetBaudRate d)) (address.Group g) (address.Group g) (SetBaudRate d)

-- what an order sends writes no place, unless it is a Hard Reset
order_sends : (c : Command) → is_placing (role_of c) ≡ false → is_reset (role_of c) ≡ false → writes (effect c place) ≡ false
order_sends c e f = place_writes c ∙ rw (e, f)

-- a command was put on the line
pub record Goes (s : Session) (v : ℕ) (called to : Address) (c : Command) (p : List ℕ) (t : Session) : Type 0 where
  pub range : in_range called ≡ true
  pub fits : fits_of c ≡ true
  pub packet : p ≡ packet_for called c
  pub after : t ≡ open_exchange s v to c

seam : (p out : List ℕ) (n : ℕ) → length p ≡ n → take n (p ++ drop (length p) out) ≡ p
seam p out n e = rw (← e) (take-append_seam p (drop (length p) out))

goes : (s : Session) (v : ℕ) (called to : Address) (c : Command) (out : List ℕ) (o : Outcome Step (List ℕ)) (n : ℕ) → o ≡ sending s v called to c out → o.answer.end ≡ Ok (Some n)
    → in_range called ≡ true → fits_of c ≡ true → Goes s v called to c (take n o.left) o.answer.session
goes s v called to c out o n e f range fits =
    let m : Ok (Some (length (packet_for called c))) ≡ Ok (Some n) = sym (ap (λ (x : Outcome Step (List ℕ)). x.answer.end) e) ∙ f in
    record { range = range; fits = fits; packet = rw e (seam (packet_for called c) out n (cc m)); after = ap (λ (x : Outcome Step (List ℕ)). x.answer.session) e }

-- a call that sends, and isn't a Hard Reset
pub record CallSends (s : Session) (v : ℕ) (k : Call) (p : List ℕ) (t : Session) : Type 0 where
  pub called : Address
  pub to : Address
  pub command : Command
  pub free : Free s
  pub due : Due s (what_of k p) called to command
  pub typed : Typed command
  pub goes : Goes s v called to command p t

pub call_sends : (k : Call) → TypedCall k → resets k ≡ false → (s : Session) (v : ℕ) (out : List ℕ) (n : ℕ) → (call_perform k s v out).answer.end ≡ Ok (Some n)
    → CallSends s v k (take n (call_perform k s v out).left) (call_perform k s v out).answer.session
call_sends Next t o s v out n e =
    let w = next_went s v out (ap number_by e) in
    let k = next_says s v w.passed in
    let l = k.walking in
    let f = node_fits s.n (s.walk + 1) k.session.valid.few (omega arith) in
    let g = goes s v _ _ _ out _ n w.result e refl (rw f refl) in
    record {
      called = node_at address_up;
      to = node_at (s.walk + 1);
      command = SetAddress (given_place (s.walk + 1));
      free = k.session;
      due = rw g.packet (next l k.placed);
      typed = omega arith;
      goes = g;
    }
call_sends Ask t o s v out n e =
    let w = ask_went s v out (ap number_by e) in
    let k = ask_says s v w.passed in
    let l = k.walking in
    let g = goes s v _ _ _ out _ n w.result e (node_fits s.n (s.walk + 1) k.session.valid.few (omega arith)) refl in
    record {
      called = node_at (s.walk + 1);
      to = node_at (s.walk + 1);
      command = Nop;
      free = k.session;
      due = rw g.packet (ask l k.doubtful);
      typed = tt;
      goes = g;
    }
call_sends (Order to c) t o s v out n e =
    let w = order_went s v out to c (ap number_by e) in
    let k = order_says s v to c w.passed in
    record {
      called = to;
      to = to;
      command = c;
      free = k.session;
      due = order k.ended k.node (order_sends c k.ordinary o) k.suits k.unpacing;
      typed = unplaced_typed c k.ordinary;
      goes = goes s v to to c out _ n w.result e (to_fits s.n to k.session.valid.few k.group k.node) k.fits;
    }
call_sends (Regroup i g leader) t o s v out n e =
    let w = regroup_went s v out i g leader (ap number_by e) in
    let k = regroup_says s v i g leader w.passed in
    let f = node_fits s.n i.0 k.session.valid.few k.node.high in
    record {
      called = address.Individual i;
      to = address.Individual i;
      command = SetAddress (record { address = i; group = g; leader = leader });
      free = k.session;
      due = regroup {leader = leader} k.ended k.node (λ l. wish_free s i g (rw l at k.free));
      typed = t;
      goes = goes s v _ _ _ out _ n w.result e f (rw (f, k.group) refl);
    }
call_sends (call.SetBaudRate g d) t o s v out n e =
    let w = baud_rate_went s v out g d (ap number_by e) in
    let k = baud_rate_says s v g d w.passed in
    record {
      called = address.Group g;
      to = address.Group g;
      command = SetBaudRate d;
      free = k.session;
      due = paces k.ended k.unanswerable;
      typed = tt;
      goes = goes s v _ _ _ out _ n w.result e k.group refl;
    }
