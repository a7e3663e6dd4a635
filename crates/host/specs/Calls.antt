-- Document 01, "The host session" and "Numbers returned", with document 02, requests 6 and 7: commands, regroup and Set Baud Rate of a ready session, which are refused, in which sequence, and what the others send.
use Rattle.std.specs.Prelude.{ℕ, Bool, false, cond, not, ◌||◌, List, ltb, Result, ⊤}
use Rattle.wire.specs.declared.refusal.Refusal.{Refusal}
use Rattle.wire.specs.Promise.{Outcome}
use Rattle.wire.specs.Address.{group_in_range}
use Rattle.wire.specs.declared.address.Individual.{Individual}
use Rattle.wire.specs.declared.address.Group.{Group}
use Rattle.wire.specs.declared.address.Address.{Address}
use Rattle.wire.specs.declared.address.Address.TheVariants as address
use Rattle.command.specs.declared.Command.{Command}
use Rattle.command.specs.declared.Command.TheVariants.{SetAddress, SetBaudRate}
use Rattle.command.specs.Role.{role_of, is_placing, is_pacing}
use Rattle.command.specs.Ranges.{fits_of}
use Rattle.ledger.specs.Ledger.{is_led, is_lacked, is_off_list, is_answerable}
use Rattle.session.specs.declared.Session.{Session}
use Rattle.session.specs.declared.Step.{Step}
use Rattle.session.specs.Session.{off_chain}
use Rattle.sending.specs.declared.Tests.{Tests}
use Rattle.sending.specs.Sending.{test_of, transmit_of, by_check}

-- 6: "group below 0x80"
abbrev pub is_bad_group : Address → Bool
is_bad_group (address.Individual i) = false
is_bad_group (address.Group g) = not (group_in_range g.0)

-- 11: "leader wish, while another node leads that group or has its place in doubt"
unfoldable pub has_rival : Session → Individual → Group → Bool → Bool
has_rival s i g leader = cond leader (is_led i.0 g s.n s.entries) false

-- 6: "argument off its range", which a Set Address and a Set Baud Rate are here; document 02, request 6: "the host refuses it with 6"
abbrev pub is_unranged : Address → Command → Bool
is_unranged to c = ((is_placing (role_of c) || is_pacing (role_of c)) || not (fits_of c)) || is_bad_group to

-- a command of a ready session: 6 its range, 18 the divisor, 10 its node, "17 for a command that the kind of a node it may reach lacks", 9
abbrev pub order_tests : Session → ℕ → Address → Command → Tests
order_tests s at to c = record {
  unranged = is_unranged to c;
  unlisted = is_off_list at s.n s.entries;
  stray = off_chain s.n to;
  lacked = is_lacked to c s.n s.entries;
  undue = ltb s.walk s.n;
  led = false;
  answerable = false;
}

unfoldable pub order_check : Session → ℕ → Address → Command → Result ⊤ Refusal
order_check s at to c = test_of s (order_tests s at to c)

-- a Set Address of a ready session: 6 its group, 18 the divisor, 10 its node, 9, 11 its wish
abbrev pub regroup_tests : Session → ℕ → Individual → Group → Bool → Tests
regroup_tests s at i g leader = record {
  unranged = not (group_in_range g.0);
  unlisted = is_off_list at s.n s.entries;
  stray = off_chain s.n (address.Individual i);
  lacked = false;
  undue = ltb s.walk s.n;
  led = has_rival s i g leader;
  answerable = false;
}

unfoldable pub regroup_check : Session → ℕ → Individual → Group → Bool → Result ⊤ Refusal
regroup_check s at i g leader = test_of s (regroup_tests s at i g leader)

-- a Set Baud Rate: 6 its group, "18 for any other divisor", of the one that it is sent at and the one that it sets, 9, "19 for Set Baud Rate to a group that a known member
-- leads, or while any place is in doubt"
abbrev pub baud_rate_tests : Session → ℕ → Group → ℕ → Tests
baud_rate_tests s at g d = record {
  unranged = not (group_in_range g.0);
  unlisted = is_off_list at s.n s.entries || is_off_list d s.n s.entries;
  stray = false;
  lacked = false;
  undue = ltb s.walk s.n;
  led = false;
  answerable = is_answerable g s.n s.entries;
}

unfoldable pub baud_rate_check : Session → ℕ → Group → ℕ → Result ⊤ Refusal
baud_rate_check s at g d = test_of s (baud_rate_tests s at g d)

-- "When ready: .. to a node 1 to n or to a group"
unfoldable pub order_of : Session → ℕ → Address → Command → List ℕ → Outcome Step (List ℕ)
order_of s at to c out = by_check (order_check s at to c) s out (transmit_of s at to to c out)

-- "Regroup sends Set Address to node k with address k, group and leader wish"
unfoldable pub regroup_of : Session → ℕ → Individual → Group → Bool → List ℕ → Outcome Step (List ℕ)
regroup_of s at i g leader out =
    by_check (regroup_check s at i g leader) s out
    (transmit_of s at (address.Individual i) (address.Individual i) (SetAddress (record { address = i; group = g; leader = leader })) out)

-- "Bring in Set Baud Rate", "set only by group"
unfoldable pub set_baud_rate_of : Session → ℕ → Group → ℕ → List ℕ → Outcome Step (List ℕ)
set_baud_rate_of s at g d out = by_check (baud_rate_check s at g d) s out (transmit_of s at (address.Group g) (address.Group g) (SetBaudRate d) out)
