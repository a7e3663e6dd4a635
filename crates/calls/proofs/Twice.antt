-- Two calls that give the same bytes in one session: some kind of node has both commands, and then they are one and the same;
-- or each kind has one of them, and then no node may be reached, since 17 refuses neither. The sessions after them are alike.
use Prim.Native.Nat.{ℕ}
use Rattle.wire.specs.declared.refusal.Refusal.{Refusal}
use Rattle.std.specs.Prelude.{Some, Result, Ok, Option, ℕ}
use mathlib.Core.Bool.{Bool, true, false, true≢false, false≢true}
use mathlib.Core.List.{List, [], append-nil}
use mathlib.Core.Path.{◌≡◌, refl, sym, ap, subst, ◌∙◌}
use lib.ListN.{length, take, drop}
use lib.Seq.{take_at}
use Rattle.wire.specs.Promise.{Outcome}
use Rattle.wire.specs.declared.address.Address.{Address}
use Rattle.wire.specs.declared.kind.Kind.{Kind}
use Rattle.wire.specs.declared.kind.Kind.TheVariants.{Gate, Drive}
use Rattle.packet.specs.Packet.{data_part}
use Rattle.packet.proofs.Packets.{whole_parts}
use Rattle.wire.proofs.Answered.{ok_is, some_is}
use Rattle.command.specs.declared.Command.{Command}
use Rattle.command.specs.declared.Owner.{Owner}
use Rattle.command.specs.declared.Owner.TheVariants as owner
use Rattle.command.specs.Role.{role_of, is_reset}
use Rattle.command.specs.Owner.{owner_of, has_by, has}
use Rattle.command.proofs.Roles.{only_reset}
use Rattle.codec.specs.Reading.{codec_read, ReadsAs}
use Rattle.codec.specs.Build.{packet_for}
use Rattle.codec.proofs.Commands.{built_reads}
use Rattle.node.specs.Effect.{divisor_up}
use Rattle.session.specs.declared.Session.{Session}
use Rattle.session.specs.declared.Step.{Step}
use Rattle.session.specs.Session.{off_chain, is_valid, is_closed}
use Rattle.session.proofs.Sessions.{valid_from, open_is}
use Rattle.wire.specs.Numbers.{done, number_by}
use Rattle.sending.specs.Sending.{open_exchange}
use Rattle.sending.proofs.Sent.{opened_waits}
use Rattle.sending.proofs.Passing.{Free}
use Rattle.calls.specs.declared.Call.{Call}
use Rattle.calls.specs.Calls.{Gives, session_after}
use Rattle.calls.specs.Alike.{awaiting, is_reaching, Alike, same, unreached}
use Rattle.ledger.specs.Ledger.{is_lacked}
use Rattle.calls.proofs.Nobody.{nobody}
use Rattle.calls.proofs.Standing.{about_of, CallWent, call_went}

-- ---- some kind of node has it

pub record Had (c : Command) : Type 0 where
  pub kind : Kind
  pub by : has kind c ≡ true

drive_by : (o : Owner) → has_by Gate o ≡ false → has_by Drive o ≡ true
drive_by owner.Both h = refl
drive_by owner.Gate h = absurd (true≢false h)
drive_by owner.Drive h = refl

-- what an LS-773 lacks an LS-173AP has
drive_has : (c : Command) → has Gate c ≡ false → has Drive c ≡ true
drive_has c = drive_by (owner_of c)

by_gate : (b : Bool) (c : Command) → has Gate c ≡ b → Had c
by_gate true c e = record { kind = Gate; by = e }
by_gate false c e = record { kind = Drive; by = drive_has c e }

pub had : (c : Command) → Had c
had c = by_gate (has Gate c) c refl

-- ---- what a call that gives bytes sent

pub sent_done : {e : Result (Option ℕ) Refusal} (n : ℕ) → e ≡ Ok (Some n) → number_by e ≡ done
sent_done n h = ap number_by h

sent_count : {n m : ℕ} → ◌≡◌ {A = Result (Option ℕ) Refusal} (Ok (Some n)) (Ok (Some m)) → n ≡ m
sent_count e = some_is (ok_is e)

abbrev pub went_by : {s : Session} {k : Call} {p : List ℕ} (g : Gives s k p) → CallWent k s divisor_up g.out
went_by {s} {k} g = call_went k s divisor_up g.out (sent_done g.count g.sent)

module _ {s : Session} {k : Call} {p : List ℕ} (g : Gives s k p) (w : CallWent k s divisor_up g.out) where
  abbrev packet : List ℕ
  packet = packet_for w.called w.command

  -- it gave the packet of its command, and opened the exchange
  pub packet_is : p ≡ packet
  packet_is =
      let e : g.count ≡ length packet = sent_count (sym g.sent ∙ ap (λ (o : Outcome Step (List ℕ)). o.answer.end) w.result) in
      sym g.bytes ∙ ap (λ (o : Outcome Step (List ℕ)). take g.count o.left) w.result ∙ take_at packet (drop (length packet) g.out) g.count (sym e)

  pub after_is : session_after g ≡ open_exchange s divisor_up w.to w.command
  after_is = ap (λ (o : Outcome Step (List ℕ)). o.answer.session) w.result

  -- which reads back for a kind of node that has it
  pub reads_back : (kind : Kind) → has kind w.command ≡ true → ReadsAs kind p w.called w.command (length p)
  reads_back kind h =
      subst (λ (l : List ℕ). ReadsAs kind l w.called w.command (length l)) (sym packet_is)
      (rw (append-nil packet) at (built_reads kind w.called w.command h w.ranged w.fits (w.typed g.typed) []))

-- ---- what two of them have in common

-- bytes say one address, whoever reads them, and one command to a kind of node
one_address : {x y : Kind} {p : List ℕ} {a b : Address} {c d : Command} {n m : ℕ} → ReadsAs x p a c n → ReadsAs y p b d m → a ≡ b
one_address r q = (whole_parts (sym r.whole ∙ q.whole)).0

pub one_command : {x : Kind} {p : List ℕ} {a b : Address} {c d : Command} {n m : ℕ} → ReadsAs x p a c n → ReadsAs x p b d m → c ≡ d
one_command {x} {p} r q =
    some_is (sym r.known ∙ ap (λ (k : ℕ). codec_read x k (data_part p)) (whole_parts (sym r.whole ∙ q.whole)).1.0 ∙ q.known)

-- a command that a kind of node lacks is no Hard Reset
waits_by : (b : Bool) (kind : Kind) (c : Command) → has kind c ≡ false → is_reset (role_of c) ≡ b → b ≡ false
waits_by true kind c h e = absurd (false≢true (sym h ∙ ap (has kind) (only_reset c e)))
waits_by false kind c h e = refl

own_waits : (kind : Kind) (c : Command) → has kind c ≡ false → is_reset (role_of c) ≡ false
own_waits kind c h = waits_by (is_reset (role_of c)) kind c h refl

-- a free session that sends to a node or group is open still
sent_open : (s : Session) (to : Address) (c : Command) → Free s → off_chain s.n to ≡ false → is_closed (awaiting s divisor_up to c) ≡ false
sent_open s to c f e = open_is (awaiting s divisor_up to c) (valid_from (awaiting s divisor_up to c) f.valid.few f.valid.walked e) f.started

module _ {s : Session} {j k : Call} {p : List ℕ} (g : Gives s j p) (h : Gives s k p) (w : CallWent j s divisor_up g.out) (v : CallWent k s divisor_up h.out) where
  -- one command
  alike_same : (kind : Kind) → has kind w.command ≡ true → has kind v.command ≡ true → Alike (session_after g) (session_after h)
  alike_same kind a b =
      let r = reads_back g w kind a in
      let q = reads_back h v kind b in
      let e : session_after g ≡ open_exchange s divisor_up (about_of s w.called) w.command = after_is g w ∙ ap (λ (x : Address). open_exchange s divisor_up x w.command) w.about in
      let f : session_after h ≡ open_exchange s divisor_up (about_of s v.called) v.command = after_is h v ∙ ap (λ (x : Address). open_exchange s divisor_up x v.command) v.about in
      let i : open_exchange s divisor_up (about_of s w.called) w.command ≡ open_exchange s divisor_up (about_of s v.called) v.command =
      ap (λ (x : Address). open_exchange s divisor_up (about_of s x) w.command) (one_address r q) ∙ ap (open_exchange s divisor_up (about_of s v.called)) (one_command r q) in
      subst (Alike (session_after g)) (e ∙ i ∙ sym f) (same (session_after g))

  -- two, each of which a kind lacks, where no node may be reached
  alike_apart : (x y : Kind) → has x w.command ≡ false → has y v.command ≡ false → w.called ≡ v.called → is_reaching s w.called ≡ false
      → Alike (session_after g) (session_after h)
  alike_apart x y a b e u =
      let c = w.own x a in
      let i : session_after g ≡ awaiting s divisor_up w.called w.command =
      after_is g w ∙ ap (λ (z : Address). open_exchange s divisor_up z w.command) c.0 ∙ opened_waits s divisor_up w.called w.command (own_waits x w.command a) in
      let j : session_after h ≡ awaiting s divisor_up w.called v.command =
      after_is h v ∙ ap (λ (z : Address). open_exchange s divisor_up z v.command) ((v.own y b).0 ∙ sym e) ∙ opened_waits s divisor_up w.called v.command (own_waits y v.command b) in
      rw (i, j) (unreached s divisor_up w.called w.command v.command (sent_open s w.called w.command w.free c.1.node) c.1.ended u)

  -- the first is an LS-773's, the second not: an LS-173AP has both, or 17 refuses neither
  by_drive : (t : Bool) → has Drive w.command ≡ t → has Gate w.command ≡ true → has Gate v.command ≡ false → Alike (session_after g) (session_after h)
  by_drive true a b c = alike_same Drive a (drive_has v.command c)
  by_drive false a b c =
      let e : w.called ≡ v.called = one_address (reads_back g w Gate b) (reads_back h v Drive (drive_has v.command c)) in
      let f : is_lacked w.called v.command s.n s.entries ≡ false =
      subst (λ (z : Address). is_lacked z v.command s.n s.entries ≡ false) (sym e) (v.own Gate c).1.suits in
      alike_apart Drive Gate a c e (nobody w.called v.command w.command c a s f (w.own Drive a).1.suits)

alike_back : {s t : Session} → Alike s t → Alike t s
unfolding is_closed is_valid
alike_back (same s) = same s
alike_back (unreached s at to c d o e u) = unreached s at to d c o e u

module _ {s : Session} {j k : Call} {p : List ℕ} (g : Gives s j p) (h : Gives s k p) where
  by_gates : (t u : Bool) → has Gate (went_by g).command ≡ t → has Gate (went_by h).command ≡ u → Alike (session_after g) (session_after h)
  by_gates true true a b = alike_same g h (went_by g) (went_by h) Gate a b
  by_gates true false a b = by_drive g h (went_by g) (went_by h) (has Drive (went_by g).command) refl a b
  by_gates false true a b = alike_back (by_drive h g (went_by h) (went_by g) (has Drive (went_by h).command) refl b a)
  by_gates false false a b = alike_same g h (went_by g) (went_by h) Drive (drive_has (went_by g).command a) (drive_has (went_by h).command b)

  -- two calls that give the same bytes: nothing differs
  pub gives_alike : Alike (session_after g) (session_after h)
  gives_alike = by_gates (has Gate (went_by g).command) (has Gate (went_by h).command) refl refl
