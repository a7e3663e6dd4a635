-- What a passed check of the walk says: each of its tests failed.
use Prim.Native.Nat.{ℕ, ◌+◌, ◌<◌}
use Rattle.wire.specs.declared.refusal.Refusal.{Refusal}
use Rattle.std.specs.Prelude.{Result, Ok, ⊤}
use mathlib.Core.Bool.{true, false, not, ◌||◌}
use mathlib.Core.Path.{◌≡◌, sym, ◌∙◌}
use native.Mathlib.Omega.{arith}
use lib.Dec.{leb}
use borrow.Author.Tests.{leb-false, not-true, not-false}
use Rattle.wire.proofs.Choice.{neither}
use Rattle.node.specs.Setting.{place}
use Rattle.entry.specs.Entry.{knows}
use Rattle.ledger.specs.Ledger.{is_off_list}
use Rattle.session.specs.declared.Session.{Session}
use Rattle.session.specs.Session.{entry_of, is_ask_due}
use Rattle.session.proofs.Sessions.{due_says}
use Rattle.sending.proofs.Passing.{Free, check_says}
use Rattle.walk.specs.Walk.{walk_tests, next_check, ask_check}

-- "next": the divisor is listed, the walk has not ended, and the next node's place is known
pub record NextPasses (s : Session) (at : ℕ) : Type 0 where
  pub session : Free s
  pub listed : is_off_list at s.n s.entries ≡ false
  pub walking : s.walk < s.n
  pub placed : knows (entry_of s (s.walk + 1)) place ≡ true

pub next_says : (s : Session) (at : ℕ) → next_check s at ≡ Ok tt → NextPasses s at
unfolding next_check
next_says s at h =
    let t = check_says s (walk_tests s at (leb s.n s.walk || is_ask_due s)) h in
    let u = neither (leb s.n s.walk) (is_ask_due s) t.due in
    let v = t.session.valid in
    let w = leb-false s.n s.walk u.0 in
    record {
      session = t.session;
      listed = t.listed;
      walking = w;
      placed = not-false (knows (entry_of s (s.walk + 1)) place) (sym (due_says s (omega arith)) ∙ u.1);
    }

-- "ask": the divisor is listed, the walk has not ended, and the next node's place is in doubt
pub record AskPasses (s : Session) (at : ℕ) : Type 0 where
  pub session : Free s
  pub listed : is_off_list at s.n s.entries ≡ false
  pub walking : s.walk < s.n
  pub doubtful : knows (entry_of s (s.walk + 1)) place ≡ false

pub ask_says : (s : Session) (at : ℕ) → ask_check s at ≡ Ok tt → AskPasses s at
unfolding ask_check
ask_says s at h =
    let t = check_says s (walk_tests s at (leb s.n s.walk || not (is_ask_due s))) h in
    let u = neither (leb s.n s.walk) (not (is_ask_due s)) t.due in
    let v = t.session.valid in
    let w = leb-false s.n s.walk u.0 in
    let d = not-false (is_ask_due s) u.1 in
    record {
      session = t.session;
      listed = t.listed;
      walking = w;
      doubtful = not-true (knows (entry_of s (s.walk + 1)) place) (sym (due_says s (omega arith)) ∙ d);
    }

-- as the code's checks give it
pub next_walks : (k : Result ⊤ Refusal) (s : Session) (at : ℕ) → k ≡ next_check s at → k ≡ Ok tt → s.walk < s.n
next_walks k s at p q = (next_says s at (sym p ∙ q)).walking

pub ask_walks : (k : Result ⊤ Refusal) (s : Session) (at : ℕ) → k ≡ ask_check s at → k ≡ Ok tt → s.walk < s.n
ask_walks k s at p q = (ask_says s at (sym p ∙ q)).walking
