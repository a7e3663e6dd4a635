-- What a report makes of the record, node by node, and of the walk.
use Prim.Native.Nat.{ℕ, suc, ◌+◌, ◌<◌, ◌≤◌}
use Rattle.std.specs.Prelude.{Ok, None}
use mathlib.Core.Bool.{Bool, true, false, cond}
use mathlib.Core.List.{List}
use mathlib.Core.Path.{◌≡◌, refl, sym, ap, ◌∙◌}
use lib.ListN.{length, get_or}
use Rattle.wire.specs.declared.address.Address.{Address}
use Rattle.wire.specs.declared.refusal.Refusal.TheVariants as refusal
use Rattle.command.specs.declared.Command.{Command}
use Rattle.command.specs.declared.Command.TheVariants.{SetAddress, SetBaudRate}
use Rattle.status.specs.Status.{judge_of}
use Rattle.status.specs.declared.Answer.{Answer}
use Rattle.status.specs.declared.Answer.TheVariants.{Clear, Marked, Silent}
use Rattle.entry.specs.declared.Entry.{Entry}
use Rattle.entry.specs.Entry.{note_of}
use Rattle.ledger.specs.Ledger.{reach_of, settle_of}
use Rattle.ledger.proofs.Ledgers.{settled_at, settled_past}
use Rattle.session.specs.declared.Exchange.{Exchange}
use Rattle.session.specs.declared.Exchange.TheVariants.{Idle, Waiting}
use Rattle.session.specs.declared.Session.{Session}
use Rattle.session.specs.Session.{refuse_of, is_closed, given_place}
use Rattle.reports.specs.Report.{is_giving, is_asking, idle_at, noted_of, is_telling, told_of, conclude_of, finish_by, finish_of, report_of}

-- the command that an answer is about: an "ask"'s good clear reply confirms the walk's Set Address
abbrev pub settled : Session → Address → Command → Answer → Command
settled s to c Marked = c
settled s to c Silent = c
settled s to c Clear = cond (is_giving s to c) c (cond (is_asking s to c) (SetAddress (given_place (s.walk + 1))) c)

-- where the walk then stands
abbrev pub walk_after : Session → Address → Command → Answer → ℕ
walk_after s to c Marked = s.walk
walk_after s to c Silent = s.walk
walk_after s to c Clear = cond (is_giving s to c) (s.walk + 1) (cond (is_asking s to c) (s.walk + 1) s.walk)

-- one of the three ends of a good clear reply
three : (g k : Bool) (s : Session) (to : Address) (c x : Command)
    → cond g (idle_at s (s.walk + 1) (settle_of Clear to c s.n s.entries))
    (cond k (idle_at s (s.walk + 1) (settle_of Clear to x s.n s.entries))
    (idle_at s s.walk (settle_of Clear to c s.n s.entries)))
    ≡ idle_at s (cond g (s.walk + 1) (cond k (s.walk + 1) s.walk)) (settle_of Clear to (cond g c (cond k x c)) s.n s.entries)
three true k s to c x = refl
three false true s to c x = refl
three false false s to c x = refl

module _ (s : Session) (to : Address) (c : Command) where
  -- a good clear reply, and silence: every node's entry by the rule, no exchange open, n and the rest as they were
  pub clear_is : noted_of s to c Clear ≡ idle_at s (walk_after s to c Clear) (settle_of Clear to (settled s to c Clear) s.n s.entries)
  unfolding noted_of
  clear_is = three (is_giving s to c) (is_asking s to c) s to c (SetAddress (given_place (s.walk + 1)))

  pub silent_is : noted_of s to c Silent ≡ idle_at s s.walk (settle_of Silent to c s.n s.entries)
  unfolding noted_of
  silent_is = refl

  -- a good reply that isn't clear changes nothing but the exchange
  pub marked_is : noted_of s to c Marked ≡ idle_at s s.walk s.entries
  unfolding noted_of
  marked_is = refl

  -- the entry of node i + 1, for each answer
  pub noted_at : (a : Answer) (i : ℕ) (d : Entry) → s.n ≤ 31 → i < s.n → i < length s.entries
      → get_or (noted_of s to c a).entries i d ≡ note_of a (reach_of to (suc i) (get_or s.entries i d)) (settled s to c a) (get_or s.entries i d)
  noted_at Marked i d f p q = rw marked_is
  noted_at Silent i d f p q = rw silent_is (settled_at Silent to c s.n s.entries i d f p q)
  noted_at Clear i d f p q = rw clear_is (settled_at Clear to (settled s to c Clear) s.n s.entries i d f p q)

  -- an entry past n stays
  pub noted_past : (a : Answer) (i : ℕ) (d : Entry) → s.n ≤ 31 → s.n ≤ i → get_or (noted_of s to c a).entries i d ≡ get_or s.entries i d
  noted_past Marked i d f p = rw marked_is
  noted_past Silent i d f p = rw silent_is (settled_past Silent to c s.n s.entries i d f p)
  noted_past Clear i d f p = rw clear_is (settled_past Clear to (settled s to c Clear) s.n s.entries i d f p)

  -- the rest of the session
  pub noted_walk : (a : Answer) → (noted_of s to c a).walk ≡ walk_after s to c a
  noted_walk Marked = rw marked_is
  noted_walk Silent = rw silent_is
  noted_walk Clear = rw clear_is

  pub noted_n : (a : Answer) → (noted_of s to c a).n ≡ s.n
  noted_n Marked = rw marked_is
  noted_n Silent = rw silent_is
  noted_n Clear = rw clear_is

  pub noted_idle : (a : Answer) → (noted_of s to c a).exchange ≡ Idle
  noted_idle Marked = rw marked_is
  noted_idle Silent = rw silent_is
  noted_idle Clear = rw clear_is

  pub noted_started : (a : Answer) → (noted_of s to c a).started ≡ s.started
  noted_started Marked = rw marked_is
  noted_started Silent = rw silent_is
  noted_started Clear = rw clear_is

-- ---- what a Nop tells

-- but for a good clear reply to a Nop to a node, nothing more
same : {A : Type 0} (b : Bool) (x : A) → cond b x x ≡ x
same true x = refl
same false x = refl

module _ (s : Session) (at : ℕ) (to : Address) (c : Command) where
  pub silent_noted : conclude_of s at to c Silent ≡ noted_of s to c Silent
  unfolding conclude_of
  silent_noted = same (is_telling to c) (noted_of s to c Silent)

  pub marked_noted : conclude_of s at to c Marked ≡ noted_of s to c Marked
  unfolding conclude_of
  marked_noted = same (is_telling to c) (noted_of s to c Marked)

  pub untold_noted : is_telling to c ≡ false → (a : Answer) → conclude_of s at to c a ≡ noted_of s to c a
  unfolding conclude_of
  untold_noted h a = rw h

  -- such a reply is noted, and then as the reply to a Set Baud Rate to the node, of the divisor that the Nop was sent at
  pub told_noted : is_telling to c ≡ true → conclude_of s at to c Clear ≡ told_of (noted_of s to c Clear) at to
  unfolding conclude_of
  told_noted h = rw h

  -- so that what telling leaves alone is as noted
  pub alike : {A : Type 0} (f : Session → A) → ((t : Session) → t.exchange ≡ Idle → f (told_of t at to) ≡ f t) → (a : Answer) → f (conclude_of s at to c a) ≡ f (noted_of s to c a)
  alike f h Marked = ap f marked_noted
  alike f h Silent = ap f silent_noted
  alike {A} f h Clear = go (is_telling to c) refl
    where
      go : (b : Bool) → is_telling to c ≡ b → f (conclude_of s at to c Clear) ≡ f (noted_of s to c Clear)
      go true e = ap f (told_noted e) ∙ h (noted_of s to c Clear) (noted_idle s to c Clear)
      go false e = ap f (untold_noted e Clear)

  pub concluded_walk : (a : Answer) → (conclude_of s at to c a).walk ≡ walk_after s to c a
  concluded_walk a = alike (λ (t : Session). t.walk) (λ t e. refl) a ∙ noted_walk s to c a

  -- an entry past n stays
  pub concluded_past : (a : Answer) (i : ℕ) (d : Entry) → s.n ≤ 31 → s.n ≤ i → get_or (conclude_of s at to c a).entries i d ≡ get_or s.entries i d
  concluded_past a i d f p = go a ∙ noted_past s to c a i d f p
    where
      past : (t : Session) → t.n ≡ s.n → get_or (told_of t at to).entries i d ≡ get_or t.entries i d
      past t e = settled_past Clear to (SetBaudRate at) t.n t.entries i d (rw e f) (rw e p)

      go : (b : Answer) → get_or (conclude_of s at to c b).entries i d ≡ get_or (noted_of s to c b).entries i d
      go Marked = rw marked_noted
      go Silent = rw silent_noted
      go Clear = by (is_telling to c) refl
        where
          by : (b : Bool) → is_telling to c ≡ b → get_or (conclude_of s at to c Clear).entries i d ≡ get_or (noted_of s to c Clear).entries i d
          by true e = rw (told_noted e) (past (noted_of s to c Clear) (noted_n s to c Clear))
          by false e = rw (untold_noted e Clear)

  pub concluded_n : (a : Answer) → (conclude_of s at to c a).n ≡ s.n
  concluded_n a = alike (λ (t : Session). t.n) (λ t e. refl) a ∙ noted_n s to c a

  pub concluded_idle : (a : Answer) → (conclude_of s at to c a).exchange ≡ Idle
  concluded_idle a = alike (λ (t : Session). t.exchange) (λ t e. sym e) a ∙ noted_idle s to c a

  pub concluded_started : (a : Answer) → (conclude_of s at to c a).started ≡ s.started
  concluded_started a = alike (λ (t : Session). t.started) (λ t e. refl) a ∙ noted_started s to c a

-- reporting on an open exchange, and on none
pub finished_waiting : (s : Session) (a : Answer) (at : ℕ) (to : Address) (c : Command) → is_closed s ≡ false → s.exchange ≡ Waiting at to c
    → finish_of s a ≡ record { end = Ok None; session = conclude_of s at to c a }
unfolding finish_of
finished_waiting s a at to c p q = rw p (ap (λ (x : Exchange). finish_by x s a) q)

pub finished_idle : (s : Session) (a : Answer) → is_closed s ≡ false → s.exchange ≡ Idle → finish_of s a ≡ refuse_of s refusal.Idle
unfolding finish_of
finished_idle s a p q = rw p (ap (λ (x : Exchange). finish_by x s a) q)

pub finished_closed : (s : Session) (a : Answer) → is_closed s ≡ true → finish_of s a ≡ refuse_of s refusal.Idle
unfolding finish_of
finished_closed s a p = rw p

-- the bytes count by what they are judged to be
pub report_is : (s : Session) (bytes : List ℕ) → report_of s bytes ≡ finish_of s (judge_of bytes)
unfolding report_of
report_is s bytes = refl
