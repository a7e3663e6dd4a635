-- Document 01, "The host session" and "Numbers returned", with document 02, request 7: the walk, when "next" and "ask" are due and what they send.
use Rattle.std.specs.Prelude.{ℕ, ◌+◌, Bool, false, not, ◌||◌, List, leb, Result, ⊤}
use Rattle.wire.specs.declared.refusal.Refusal.{Refusal}
use Rattle.wire.specs.Promise.{Outcome}
use Rattle.command.specs.declared.Command.TheVariants.{SetAddress, Nop}
use Rattle.node.specs.Effect.{address_up}
use Rattle.ledger.specs.Ledger.{is_off_list}
use Rattle.session.specs.declared.Session.{Session}
use Rattle.session.specs.declared.Step.{Step}
use Rattle.session.specs.Session.{given_place, is_ask_due, node_at}
use Rattle.sending.specs.declared.Tests.{Tests}
use Rattle.sending.specs.Sending.{test_of, transmit_of, by_check}

-- what both look for: 18, and whether they are due
abbrev pub walk_tests : Session → ℕ → Bool → Tests
walk_tests s at undue = record {
  unranged = false;
  unlisted = is_off_list at s.n s.entries;
  stray = false;
  lacked = false;
  undue = undue;
  led = false;
  answerable = false;
}

-- 9: "next" is due until the walk has ended, unless "ask" is
unfoldable pub next_check : Session → ℕ → Result ⊤ Refusal
next_check s at = test_of s (walk_tests s at (leb s.n s.walk || is_ask_due s))

-- 9: "ask" is due where the place that "next" gave is in doubt
unfoldable pub ask_check : Session → ℕ → Result ⊤ Refusal
ask_check s at = test_of s (walk_tests s at (leb s.n s.walk || not (is_ask_due s)))

-- "'next' sends Set Address to 0x00 with the next address"
unfoldable pub next_of : Session → ℕ → List ℕ → Outcome Step (List ℕ)
next_of s at out = by_check (next_check s at) s out (transmit_of s at (node_at address_up) (node_at (s.walk + 1)) (SetAddress (given_place (s.walk + 1))) out)

-- "a Nop to the new address"
unfoldable pub ask_of : Session → ℕ → List ℕ → Outcome Step (List ℕ)
ask_of s at out = by_check (ask_check s at) s out (transmit_of s at (node_at (s.walk + 1)) (node_at (s.walk + 1)) Nop out)
