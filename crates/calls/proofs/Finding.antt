-- The call that is found for some bytes gives them in that session with number 0, and where none is found no call does: "a command the host couldn't have sent".
-- Where two calls give them, either may be found: the sessions after them are alike.
use Prim.Native.Nat.{ℕ}
use Rattle.wire.specs.declared.refusal.Refusal.{Refusal}
use Rattle.packet.specs.declared.Framed.{Framed}
use Rattle.std.specs.Prelude.{Result, Err, Option, Some, None, Ok, ℕ}
use mathlib.Core.Bool.{Bool, true, false, cond, true≢false}
use mathlib.Core.List.{List, ◌++◌}
use mathlib.Core.Path.{◌≡◌, refl, sym, ap, subst, ◌∙◌}
use native.Mathlib.Omega.{arith}
use lib.Dec.{ltb}
use lib.ListN.{length, take, drop, replicate, length-replicate}
use lib.Seq.{take_at}
use borrow.Author.Tests.{le-ltb}
use Rattle.wire.proofs.Impossible.{impossible}
use Rattle.wire.proofs.Choice.{chose_second}
use Rattle.wire.specs.declared.address.Address.{Address}
use Rattle.text.specs.Same.{is_same}
use Rattle.text.proofs.Sameness.{same_self, same_says}
use Rattle.wire.specs.declared.kind.Kind.{Kind}
use Rattle.wire.specs.declared.kind.Kind.TheVariants.{Gate, Drive}
use Rattle.packet.specs.Packet.{read_of, data_part, whole}
use Rattle.command.specs.declared.Command.{Command}
use Rattle.command.specs.declared.Role.{Role}
use Rattle.command.specs.declared.Role.TheVariants.{Plain, Places, Paces, Masks, Captures, Zeroes, Idles, Resets}
use Rattle.command.specs.Role.{role_of, is_placing}
use Rattle.command.specs.Owner.{has}
use Rattle.codec.specs.Reading.{codec_read}
use Rattle.codec.specs.Build.{typed_by, Typed, packet_for}
use Rattle.codec.proofs.Commands.{built_few, reads_in_range}
use Rattle.node.specs.Effect.{divisor_up}
use Rattle.session.specs.declared.Session.{Session}
use Rattle.sending.specs.Sending.{open_exchange}
use Rattle.sending.proofs.Sent.{sending}
use Rattle.walk.proofs.Sent.{next_went, ask_went}
use Rattle.walk.proofs.Passing.{next_says, ask_says}
use Rattle.host.proofs.Sent.{order_went, regroup_went}
use Rattle.host.proofs.Passing.{order_says, regroup_says}
use Rattle.calls.specs.declared.Call.{Call}
use Rattle.calls.specs.declared.Call.TheVariants.{Next, Ask, Order, Regroup, SetBaudRate}
use Rattle.calls.specs.declared.Spoken.{Spoken}
use Rattle.wire.proofs.Answered.{ok_is, some_is}
use Rattle.calls.specs.declared.Sought.{Sought}
use Rattle.calls.specs.Calls.{call_perform, TypedCall, sets_rate, Gives, session_after, Unsendable}
use Rattle.calls.specs.Understanding.{says, understand_of, spoken_as, spoken_to}
use Rattle.calls.specs.Finding.{missed_of, sought_by, sought_of, try_call, early_call, late_by, late_call, by_source, seek_of, find_by, find_as, find_of}
use Rattle.calls.specs.Alike.{Alike}
use Rattle.calls.proofs.Standing.{CallWent, call_went}
use Rattle.calls.proofs.Twice.{had, sent_done, went_by, packet_is, after_is, reads_back, gives_alike}

found_not : {k : Call} → Some k ≡ None → ⊥
found_not e = impossible cc

-- sent as these bytes, it is found
sent_found : (s : Session) (k : Call) (p left : List ℕ) (after : Session) (n : ℕ) → take n left ≡ p
    → sought_by s k p after left (Ok (Some n)) ≡ record { source = Some k; session = after }
sent_found s k p left after n e = rw (e, same_self p)

-- ---- a call that is made is found by the reading of a kind that has its command

-- as that call, with the session that it gave
abbrev FoundBy : {s : Session} {k : Call} {p : List ℕ} → Gives s k p → Sought → Type 0
FoundBy {s} {k} g x = x ≡ record { source = Some k; session = session_after g }

module _ {s : Session} {k : Call} {p : List ℕ} (g : Gives s k p) (w : CallWent k s divisor_up g.out) where
  abbrev packet : List ℕ
  packet = packet_for w.called w.command

  -- tried with room for the longest packet
  tried : try_call s k p ≡ record { source = Some k; session = session_after g }
  unfolding try_call
  tried =
      let e : call_perform k s divisor_up (replicate 19 0) ≡ sending s divisor_up w.called w.to w.command (replicate 19 0) = (w.sends (replicate 19 0)).room (omega (arith, built_few w.called w.command, length-replicate {A = ℕ} 19 0)) in
      let f : take (length packet) (packet ++ drop (length packet) (replicate 19 0)) ≡ p = take_at packet (drop (length packet) (replicate 19 0)) _ refl ∙ sym (packet_is g w) in
      ap (sought_of s k p) e
      ∙ sent_found s k p (packet ++ drop (length packet) (replicate 19 0)) (open_exchange s divisor_up w.to w.command) (length packet) f
      ∙ ap (λ (t : Session). record { source = Some k; session = t }) (sym (after_is g w))

  module _ (kind : Kind) (h : has kind w.command ≡ true) where
    -- its packet is understood
    understood : understand_of kind p ≡ says w.called w.command
    unfolding understand_of
    understood =
        let r = reads_back g w kind h in
        rw (r.whole, le-ltb (length p) (length p) (omega arith), r.known)

    found_by_lem : FoundBy g (seek_of s (early_call w.command) (late_call w.called w.command) p) → FoundBy g (find_as kind s p)
    unfolding find_as
    found_by_lem e = ap (find_by s p) understood ∙ e

    -- as the walk's call for its command, or as the ready session's, where that one isn't sent
    found_early : early_call w.command ≡ k → FoundBy g (find_as kind s p)
    unfolding seek_of
    found_early e = found_by_lem (rw (e, tried))

    found_late : try_call s (early_call w.command) p ≡ missed_of s → late_call w.called w.command ≡ k → FoundBy g (find_as kind s p)
    unfolding seek_of
    found_late m e = found_by_lem (rw (m, e, tried))

-- a call that isn't sent is not found
by_end : (e : Result (Option ℕ) Refusal) (s : Session) (k : Call) (p left : List ℕ) (after : Session) → ((n : ℕ) → e ≡ Ok (Some n) → ⊥) → sought_by s k p after left e ≡ missed_of s
by_end (Ok (Some n)) s k p left after h = absurd (h n refl)
by_end (Ok None) s k p left after h = refl
by_end (Err why) s k p left after h = refl

unsent : (s : Session) (k : Call) (p : List ℕ) → ((n : ℕ) → (call_perform k s divisor_up (replicate 19 0)).answer.end ≡ Ok (Some n) → ⊥) → try_call s k p ≡ missed_of s
unfolding try_call
unsent s k p h = by_end _ s k p _ _ h

-- a session whose walk has ended sends none of the walk's calls
ended_early : (b : Bool) (s : Session) (p : List ℕ) → s.walk ≡ s.n → try_call s (cond b Next Ask) p ≡ missed_of s
ended_early true s p e =
    unsent s Next p (λ n h. let w = (next_says s divisor_up (next_went s divisor_up (replicate 19 0) (sent_done n h)).passed).walking in omega arith)
ended_early false s p e =
    unsent s Ask p (λ n h. let w = (ask_says s divisor_up (ask_went s divisor_up (replicate 19 0) (sent_done n h)).passed).walking in omega arith)

-- a command that gives no place is an order of a ready session
late_order : (to : Address) (c : Command) (r : Role) → is_placing r ≡ false → late_by to c r ≡ Order to c
late_order to c Plain h = refl
late_order to c (Places p) h = absurd (true≢false h)
late_order to c (Paces d) h = refl
late_order to c (Masks m) h = refl
late_order to c Captures h = refl
late_order to c Zeroes h = refl
late_order to c Idles h = refl
late_order to c Resets h = refl

found_had : (s : Session) (k : Call) (p : List ℕ) (g : Gives s k p) (kind : Kind) → has kind (went_by g).command ≡ true → FoundBy g (find_as kind s p)
unfolding call_went
found_had s Next p g kind h = found_early g (went_by g) kind h refl
found_had s Ask p g kind h = found_early g (went_by g) kind h refl
found_had s (Order to c) p g kind h =
    let t = order_says s divisor_up to c (order_went s divisor_up g.out to c (sent_done g.count g.sent)).passed in
    found_late g (went_by g) kind h (ended_early (is_placing (role_of c)) s p t.ended) (late_order to c (role_of c) t.ordinary)
found_had s (Regroup i j leader) p g kind h =
    let t = regroup_says s divisor_up i j leader (regroup_went s divisor_up g.out i j leader (sent_done g.count g.sent)).passed in
    found_late g (went_by g) kind h (ended_early true s p t.ended) refl
found_had s (SetBaudRate j d) p g kind h = absurd (true≢false g.unpaced)

-- where none is found, none is found by either reading
missing_by : (x : Option Call) (y z : Sought) → y.source ≡ x → (by_source x y z).source ≡ None → (y.source ≡ None) × (z.source ≡ None)
missing_by (Some k) y z e f = absurd (found_not (sym e ∙ f))
missing_by None y z e f = (e, f)

missing_as : (kind : Kind) (s : Session) (p : List ℕ) → (find_of s p).source ≡ None → (find_as kind s p).source ≡ None
unfolding find_of
missing_as Gate s p e = (missing_by (find_as Gate s p).source (find_as Gate s p) (find_as Drive s p) refl e).0
missing_as Drive s p e = (missing_by (find_as Gate s p).source (find_as Gate s p) (find_as Drive s p) refl e).1

-- "where it finds none there is none"
pub missing_unsendable : (s : Session) (p : List ℕ) → (find_of s p).source ≡ None → Unsendable s p
missing_unsendable s p e k g =
    let h = had (went_by g).command in
    found_not (sym (ap (λ (x : Sought). x.source) (found_had s k p g h.kind h.by)) ∙ missing_as h.kind s p e)

-- ---- a call that is found gives the bytes

-- the bytes that a call gives, and the session that the search ends with
pub record Made (s : Session) (k : Call) (p : List ℕ) (after : Session) : Type 0 where
  pub gives : Gives s k p
  pub session : after ≡ session_after gives

-- what was found is such a call
abbrev FoundAs : Session → List ℕ → Call → Sought → Type 0
FoundAs s p j x = x.source ≡ Some j → Made s j p x.session

module _ (s : Session) (k : Call) (p : List ℕ) (typed : TypedCall k) (unpaced : sets_rate k ≡ false) (j : Call) where
  by_same : (b : Bool) (n : ℕ) → (call_perform k s divisor_up (replicate 19 0)).answer.end ≡ Ok (Some n) → is_same (take n (call_perform k s divisor_up (replicate 19 0)).left) p ≡ b
      → FoundAs s p j (cond b (record { source = Some k; session = (call_perform k s divisor_up (replicate 19 0)).answer.session }) (missed_of s))
  by_same true n e h f =
      let g : Gives s k p = record { typed = typed; unpaced = unpaced; out = replicate 19 0; count = n; sent = e; bytes = same_says _ p h } in
      let i : k ≡ j = some_is f in
      subst (λ (m : Call). Made s m p (call_perform k s divisor_up (replicate 19 0)).answer.session) i (record { gives = g; session = refl })
  by_same false n e h f = absurd (found_not (sym f))

  by_sent : (e : Result (Option ℕ) Refusal) → (call_perform k s divisor_up (replicate 19 0)).answer.end ≡ e
      → FoundAs s p j (sought_by s k p (call_perform k s divisor_up (replicate 19 0)).answer.session (call_perform k s divisor_up (replicate 19 0)).left e)
  by_sent (Ok (Some n)) e = by_same _ n e refl
  by_sent (Ok None) e = λ f. absurd (found_not (sym f))
  by_sent (Err why) e = λ f. absurd (found_not (sym f))

  tried_gives : FoundAs s p j (try_call s k p)
  unfolding try_call
  tried_gives = by_sent (call_perform k s divisor_up (replicate 19 0)).answer.end refl

-- what is read is of its types, so the calls that are tried for it are
early_typed : (b : Bool) → TypedCall (cond b Next Ask)
early_typed true = tt
early_typed false = tt

late_typed : (to : Address) (c : Command) (r : Role) → typed_by r → TypedCall (late_by to c r)
late_typed to c Plain t = tt
late_typed to c (Places p) t = t
late_typed to c (Paces d) t = tt
late_typed to c (Masks m) t = tt
late_typed to c Captures t = tt
late_typed to c Zeroes t = tt
late_typed to c Idles t = tt
late_typed to c Resets t = tt

-- none of them is a Set Baud Rate
early_unpaced : (b : Bool) → sets_rate (cond b Next Ask) ≡ false
early_unpaced true = refl
early_unpaced false = refl

late_unpaced : (to : Address) (c : Command) (r : Role) → sets_rate (late_by to c r) ≡ false
late_unpaced to c Plain = refl
late_unpaced to c (Places p) = refl
late_unpaced to c (Paces d) = refl
late_unpaced to c (Masks m) = refl
late_unpaced to c Captures = refl
late_unpaced to c Zeroes = refl
late_unpaced to c Idles = refl
late_unpaced to c Resets = refl

module _ (kind : Kind) (p : List ℕ) (to : Address) (c : Command) where
  by_reading : (r : Option Command) (a : Address) (k n : ℕ) → read_of p ≡ whole a k n → codec_read kind k (data_part p) ≡ r
      → ◌≡◌ {A = Result (Option Spoken) Refusal} (Ok (spoken_to a r)) (says to c) → Typed c
  by_reading (Some d) a k n e f h =
      let i : d ≡ c = ap (λ (x : Spoken). x.command) (some_is (ok_is h)) in
      subst Typed i (reads_in_range kind p a d n (record { command = k; whole = e; known = f })).2
  by_reading None a k n e f h = impossible cc

  by_framed : (f : Result Framed Refusal) → read_of p ≡ f → spoken_as kind p f ≡ says to c → Typed c
  by_framed (Ok f) e h =
      by_reading (codec_read kind f.command (data_part p)) f.address f.command f.end e refl (chose_second (ltb f.end (length p)) h (λ i. impossible cc)).1
  by_framed (Err why) e h = impossible cc

  spoken_typed : understand_of kind p ≡ says to c → Typed c
  unfolding understand_of
  spoken_typed h = by_framed (read_of p) refl h

-- the first that is found
by_first : (x : Option Call) (s : Session) (p : List ℕ) (j : Call) (y z : Sought) → FoundAs s p j y → FoundAs s p j z → FoundAs s p j (by_source x y z)
by_first (Some k) s p j y z f g = f
by_first None s p j y z f g = g

by_spoken : (kind : Kind) (x : Result (Option Spoken) Refusal) (s : Session) (p : List ℕ) (j : Call) → understand_of kind p ≡ x → FoundAs s p j (find_by s p x)
unfolding seek_of
by_spoken kind (Ok (Some x)) s p j e =
    let to = x.to in
    let c = x.command in
    by_first (try_call s (early_call c) p).source s p j _ _ (tried_gives s (early_call c) p (early_typed (is_placing (role_of c))) (early_unpaced (is_placing (role_of c))) j)
    (tried_gives s (late_call to c) p (late_typed to c (role_of c) (spoken_typed kind p to c e)) (late_unpaced to c (role_of c)) j)
by_spoken kind (Ok None) s p j e = λ f. absurd (found_not (sym f))
by_spoken kind (Err why) s p j e = λ f. absurd (found_not (sym f))

made_as : (kind : Kind) (s : Session) (p : List ℕ) (k : Call) → FoundAs s p k (find_as kind s p)
unfolding find_as
made_as kind s p k = by_spoken kind (understand_of kind p) s p k refl

-- "what the code finds is such a call"
pub found_gives : (s : Session) (p : List ℕ) (k : Call) → (find_of s p).source ≡ Some k → Made s k p (find_of s p).session
unfolding find_of
found_gives s p k = by_first (find_as Gate s p).source s p k _ _ (made_as Gate s p k) (made_as Drive s p k)

-- ---- a call that is made is found again

-- the bytes of a call are found to be a call's, with a session like the one that it gave
pub record Again (s : Session) (p : List ℕ) (after : Session) : Type 0 where
  pub call : Call
  pub found : (find_of s p).source ≡ Some call
  pub session : Alike (find_of s p).session after

pub found_again : (s : Session) (k : Call) (p : List ℕ) (g : Gives s k p) → Again s p (session_after g)
found_again s k p g = go (find_of s p).source refl
  where
    go : (x : Option Call) → (find_of s p).source ≡ x → Again s p (session_after g)
    go (Some j) e =
        let m = found_gives s p j e in
        record { call = j; found = e; session = subst (λ (t : Session). Alike t (session_after g)) (sym m.session) (gives_alike m.gives g) }
    go None e = absurd (missing_unsendable s p e k g)
