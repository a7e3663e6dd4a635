-- An exchange from its opening to the report: what becomes of the host's session, entry by entry.
use Prim.Native.Nat.{ℕ, suc, ◌+◌, ◌≤◌, ◌<◌}
use mathlib.Core.Bool.{true, false}
use mathlib.Core.List.{List}
use mathlib.Core.Option.{Option, none, some}
use mathlib.Core.Path.{◌≡◌, refl, ap, ◌∙◌}
use native.Mathlib.Omega.{arith}
use lib.ListN.{length, get_or}
use borrow.Author.Tests.{lt-ltb, le-ltb, lt-leb, eq-eqb}
use Rattle.wire.specs.declared.address.Address.{Address}
use Rattle.wire.specs.declared.address.Address.TheVariants as address
use Rattle.command.specs.declared.Command.{Command}
use Rattle.command.specs.declared.Command.TheVariants.{SetAddress, Nop}
use Rattle.command.specs.Role.{role_of, is_reset}
use Rattle.status.specs.declared.Answer.{Answer}
use Rattle.status.specs.declared.Answer.TheVariants.{Clear, Marked, Silent}
use Rattle.node.specs.Setting.{place}
use Rattle.node.proofs.Laws.{not_reset}
use Rattle.entry.specs.declared.Entry.{Entry}
use Rattle.entry.specs.Entry.{knows, note_of}
use Rattle.ledger.specs.Ledger.{blank_entry, reach_of}
use Rattle.session.specs.declared.Exchange.TheVariants.{Idle, Waiting}
use Rattle.session.specs.declared.Session.{Session}
use Rattle.session.specs.declared.Step.{Step}
use Rattle.session.specs.Session.{Valid, off_chain, entry_of, is_ask_due, node_at, given_place}
use Rattle.session.proofs.Sessions.{valid_from, open_is}
use Rattle.sending.specs.Sending.{open_exchange}
use Rattle.sending.proofs.Sent.{opened_waits}
use Rattle.reports.specs.Report.{is_giving, is_asking, is_on_walk, noted_of, conclude_of, finish_of}
use Rattle.reports.proofs.Concluding.{settled, walk_after, noted_at, noted_walk, noted_n, noted_idle, noted_started, finished_waiting, report_is}
use Rattle.reports.proofs.Validity.{noted_valid}
use Rattle.line.specs.History.{Sending, gives, asks, sends}
use Rattle.line.specs.Line.{reported_of, answer_in}
use Rattle.line.proofs.Due.{Due, next, ask, order, regroup, paces}

-- the entry of index i, of node i + 1
abbrev pub entry_at : Session → ℕ → Entry
entry_at h i = get_or h.entries i blank_entry

-- the session h with an exchange open
abbrev pub waiting_at : Session → ℕ → Address → Command → Session
waiting_at h v to c = record { started = h.started; n = h.n; walk = h.walk; exchange = Waiting v to c; entries = h.entries }

-- where the walk stands after an answer, and which command it settles
abbrev pub walk_on : Sending → Answer → ℕ → ℕ
walk_on (gives k) Clear w = w + 1
walk_on (gives k) Marked w = w
walk_on (gives k) Silent w = w
walk_on (asks k) Clear w = w + 1
walk_on (asks k) Marked w = w
walk_on (asks k) Silent w = w
walk_on (sends to c) a w = w

abbrev pub settles : Sending → Answer → Command → Command
settles (gives k) a c = c
settles (asks k) Clear c = SetAddress (given_place k)
settles (asks k) Marked c = c
settles (asks k) Silent c = c
settles (sends to d) a c = c

-- t is the session h after answer a to a command to an address: no exchange, the walk at w, each entry with command c noted
pub record Concluded (h : Session) (a : Answer) (to : Address) (c : Command) (w : ℕ) (t : Session) : Type 0 where
  pub begun : t.started ≡ h.started
  pub nodes : t.n ≡ h.n
  pub walk : t.walk ≡ w
  pub idle : t.exchange ≡ Idle
  pub full : length t.entries ≡ 31
  pub entry : (i : ℕ) → i < h.n → entry_at t i ≡ note_of a (reach_of to (suc i) (entry_at h i)) c (entry_at h i)

-- ---- the exchange is open

pub due_waits : {h : Session} {what : Sending} {called to : Address} {c : Command} → Due h what called to c → is_reset (role_of c) ≡ false
due_waits (next l k) = refl
due_waits (ask l k) = refl
due_waits {c = c} (order w o e y z) = not_reset c e
due_waits (regroup w o f) = refl
due_waits (paces w f) = refl

pub due_opens : {h : Session} {what : Sending} {called to : Address} {c : Command} → Due h what called to c → (v : ℕ) → open_exchange h v to c ≡ waiting_at h v to c
due_opens {h} {what} {called} {to} {c} d v = opened_waits h v to c (due_waits d)

on_chain_lem : (n k : ℕ) → 1 ≤ k → k ≤ n → off_chain n (node_at k) ≡ false
on_chain_lem n k l m = rw (le-ltb k 1 l, le-ltb n k m) refl

due_on_chain : {h : Session} {what : Sending} {called to : Address} {c : Command} → Due h what called to c → off_chain h.n to ≡ false
due_on_chain {h = h} (next l k) = on_chain_lem h.n (h.walk + 1) (omega arith) (omega arith)
due_on_chain {h = h} (ask l k) = on_chain_lem h.n (h.walk + 1) (omega arith) (omega arith)
due_on_chain (order w o e y z) = o
due_on_chain {h = h} (regroup {i = i} w o f) = on_chain_lem h.n i.0 o.low o.high
due_on_chain (paces w f) = refl

waiting_valid : (h : Session) (v : ℕ) (to : Address) (c : Command) → h.n ≤ 31 → h.walk ≤ h.n → length h.entries ≡ 31 → off_chain h.n to ≡ false
    → Valid (waiting_at h v to c)
waiting_valid h v to c f w l o = record { valid = valid_from (waiting_at h v to c) f w o; whole = l }

-- ---- the report closes it

pub reported_finished : (s : Session) (r : Option (List ℕ)) → reported_of s r ≡ finish_of s (answer_in r)
reported_finished s none = refl
reported_finished s (some bytes) = report_is s bytes

-- which command the answer is about, and whether the walk goes on
module _ (h : Session) (v : ℕ) (few : h.n ≤ 31) (l : h.walk < h.n) where
  on_walk : is_on_walk h (node_at (h.walk + 1)) ≡ true
  on_walk = rw (lt-ltb h.walk h.n l, eq-eqb (h.walk + 1) (h.walk + 1) refl) refl

  gives_it : is_giving (waiting_at h v (node_at (h.walk + 1)) (SetAddress (given_place (h.walk + 1)))) (node_at (h.walk + 1)) (SetAddress (given_place (h.walk + 1))) ≡ true
  unfolding is_giving
  gives_it = rw on_walk refl

  gives_not : is_giving (waiting_at h v (node_at (h.walk + 1)) Nop) (node_at (h.walk + 1)) Nop ≡ false
  unfolding is_giving
  gives_not = rw on_walk refl

  asks_it : knows (entry_of h (h.walk + 1)) place ≡ false → is_asking (waiting_at h v (node_at (h.walk + 1)) Nop) (node_at (h.walk + 1)) Nop ≡ true
  unfolding is_asking is_ask_due
  asks_it k = rw (on_walk, lt-leb 31 h.walk (omega arith), k) refl

-- once the walk has ended
module _ (h : Session) (v : ℕ) (w : h.walk ≡ h.n) (c : Command) where
  off_walk : (to : Address) → is_on_walk (waiting_at h v to c) to ≡ false
  off_walk (address.Individual i) = rw (le-ltb h.walk h.n (omega arith)) refl
  off_walk (address.Group g) = refl

  never_gives : (to : Address) → is_giving (waiting_at h v to c) to c ≡ false
  unfolding is_giving
  never_gives to = rw (off_walk to) refl

  never_asks : (to : Address) → is_asking (waiting_at h v to c) to c ≡ false
  unfolding is_asking
  never_asks to = rw (off_walk to) refl

module _ (h : Session) (v : ℕ) (few : h.n ≤ 31) where
  settled_is : {what : Sending} {called to : Address} {c : Command} → Due h what called to c → (a : Answer) → settled (waiting_at h v to c) to c a ≡ settles what a c
  settled_is (next l k) Clear = rw (gives_it h v few l) refl
  settled_is (next l k) Marked = refl
  settled_is (next l k) Silent = refl
  settled_is (ask l k) Clear = rw (gives_not h v few l, asks_it h v few l k) refl
  settled_is (ask l k) Marked = refl
  settled_is (ask l k) Silent = refl
  settled_is {to = to} {c = c} (order w o e y z) Clear = rw (never_gives h v w c to, never_asks h v w c to) refl
  settled_is (order w o e y z) Marked = refl
  settled_is (order w o e y z) Silent = refl
  settled_is {to = to} {c = c} (regroup w o f) Clear = rw (never_gives h v w c to, never_asks h v w c to) refl
  settled_is (regroup w o f) Marked = refl
  settled_is (regroup w o f) Silent = refl
  settled_is {to = to} {c = c} (paces w f) Clear = rw (never_gives h v w c to, never_asks h v w c to) refl
  settled_is (paces w f) Marked = refl
  settled_is (paces w f) Silent = refl

  walked_is : {what : Sending} {called to : Address} {c : Command} → Due h what called to c → (a : Answer) → walk_after (waiting_at h v to c) to c a ≡ walk_on what a h.walk
  walked_is (next l k) Clear = rw (gives_it h v few l) refl
  walked_is (next l k) Marked = refl
  walked_is (next l k) Silent = refl
  walked_is (ask l k) Clear = rw (gives_not h v few l, asks_it h v few l k) refl
  walked_is (ask l k) Marked = refl
  walked_is (ask l k) Silent = refl
  walked_is {to = to} {c = c} (order w o e y z) Clear = rw (never_gives h v w c to, never_asks h v w c to) refl
  walked_is (order w o e y z) Marked = refl
  walked_is (order w o e y z) Silent = refl
  walked_is {to = to} {c = c} (regroup w o f) Clear = rw (never_gives h v w c to, never_asks h v w c to) refl
  walked_is (regroup w o f) Marked = refl
  walked_is (regroup w o f) Silent = refl
  walked_is {to = to} {c = c} (paces w f) Clear = rw (never_gives h v w c to, never_asks h v w c to) refl
  walked_is (paces w f) Marked = refl
  walked_is (paces w f) Silent = refl

module _ {h : Session} {what : Sending} {called to : Address} {c : Command} (d : Due h what called to c)
    (v : ℕ) (few : h.n ≤ 31) (on : h.walk ≤ h.n) (full : length h.entries ≡ 31) where
  valid_now : Valid (waiting_at h v to c)
  valid_now = waiting_valid h v to c few on full (due_on_chain d)

  pub reported_concludes : h.started ≡ true → (r : Option (List ℕ)) → (reported_of (waiting_at h v to c) r).session ≡ conclude_of (waiting_at h v to c) v to c (answer_in r)
  reported_concludes s r =
      ap (λ (t : Step). t.session)
      (reported_finished (waiting_at h v to c) r ∙ finished_waiting (waiting_at h v to c) (answer_in r) v to c (open_is (waiting_at h v to c) valid_now.valid s) refl)

  -- as the answer is noted; what a Nop tells comes on top (Telling)
  pub conclusion : (a : Answer) → Concluded h a to (settles what a c) (walk_on what a h.walk) (noted_of (waiting_at h v to c) to c a)
  conclusion a = record {
    begun = noted_started (waiting_at h v to c) to c a;
    nodes = noted_n (waiting_at h v to c) to c a;
    walk = noted_walk (waiting_at h v to c) to c a ∙ walked_is h v few d a;
    idle = noted_idle (waiting_at h v to c) to c a;
    full = (noted_valid (waiting_at h v to c) to c a valid_now).whole;
    entry = λ i l.
        noted_at (waiting_at h v to c) to c a i blank_entry few l (omega arith)
        ∙ ap (λ (m : Command). note_of a (reach_of to (suc i) (entry_at h i)) m (entry_at h i)) (settled_is h v few d a);
  }
