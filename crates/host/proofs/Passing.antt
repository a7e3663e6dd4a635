-- What a passed check of a ready session says: each of its tests failed.
use Prim.Native.Nat.{ℕ}
use Rattle.std.specs.Prelude.{Ok}
use mathlib.Core.Bool.{Bool, true, false, not, ◌||◌}
use mathlib.Core.Path.{◌≡◌, refl, sym, ◌∙◌}
use native.Mathlib.Omega.{arith}
use lib.Dec.{ltb}
use borrow.Author.Tests.{ltb-false, not-false}
use Rattle.wire.specs.Address.{group_in_range}
use Rattle.wire.specs.declared.address.Individual.{Individual}
use Rattle.wire.specs.declared.address.Group.{Group}
use Rattle.wire.specs.declared.address.Address.{Address}
use Rattle.wire.proofs.Choice.{neither}
use Rattle.command.specs.declared.Command.{Command}
use Rattle.command.specs.Ranges.{fits_of}
use Rattle.command.specs.Role.{role_of, is_placing, is_pacing}
use Rattle.ledger.specs.Ledger.{is_led, is_lacked, is_off_list, is_answerable}
use Rattle.session.specs.declared.Session.{Session}
use Rattle.session.specs.Session.{off_chain}
use Rattle.session.proofs.Sessions.{OnChain, on_chain_lem}
use Rattle.sending.specs.declared.Tests.{Tests}
use Rattle.sending.proofs.Passing.{Free, Passes, check_says}
use Rattle.host.specs.Calls.{is_bad_group, has_rival, order_tests, regroup_tests, baud_rate_tests, order_check, regroup_check, baud_rate_check}

-- what of a command is of its range: no other call sends it, its values, its group
pub record Ranged (to : Address) (c : Command) : Type 0 where
  pub ordinary : is_placing (role_of c) ≡ false
  pub unpacing : is_pacing (role_of c) ≡ false
  pub fits : fits_of c ≡ true
  pub group : is_bad_group to ≡ false

ranged_by : (to : Address) (c : Command) → (((is_placing (role_of c) || is_pacing (role_of c)) || not (fits_of c)) || is_bad_group to) ≡ false → Ranged to c
ranged_by to c h =
    let t = neither _ (is_bad_group to) h in
    let u = neither _ (not (fits_of c)) t.0 in
    let v = neither (is_placing (role_of c)) (is_pacing (role_of c)) u.0 in
    record { ordinary = v.0; unpacing = v.1; fits = not-false (fits_of c) u.1; group = t.1 }

-- the walk has ended
ended_by : (s : Session) (t : Tests) → Passes s t → t.undue ≡ ltb s.walk s.n → s.walk ≡ s.n
ended_by s t p e =
    let b = p.session.valid in
    let l = ltb-false s.walk s.n (sym e ∙ p.due) in
    omega arith

-- a command of a ready session: neither a Set Address nor a Set Baud Rate, of its ranges, at a listed divisor, to a node 1 to n or to a group, and no node that it may reach lacks it
pub record OrderPasses (s : Session) (at : ℕ) (to : Address) (c : Command) : Type 0 where
  pub session : Free s
  pub ended : s.walk ≡ s.n
  pub ordinary : is_placing (role_of c) ≡ false
  pub unpacing : is_pacing (role_of c) ≡ false
  pub fits : fits_of c ≡ true
  pub group : is_bad_group to ≡ false
  pub listed : is_off_list at s.n s.entries ≡ false
  pub node : off_chain s.n to ≡ false
  pub suits : is_lacked to c s.n s.entries ≡ false

pub order_says : (s : Session) (at : ℕ) (to : Address) (c : Command) → order_check s at to c ≡ Ok tt → OrderPasses s at to c
unfolding order_check
order_says s at to c h =
    let t = check_says s (order_tests s at to c) h in
    let r = ranged_by to c t.ranged in
    record {
      session = t.session;
      ended = ended_by s (order_tests s at to c) t refl;
      ordinary = r.ordinary;
      unpacing = r.unpacing;
      fits = r.fits;
      group = r.group;
      listed = t.listed;
      node = t.on_chain;
      suits = t.had;
    }

-- regroup: a node 1 to n of a ready session, a group of its range, a listed divisor, and no leader wish that another node stands in the way of
pub record RegroupPasses (s : Session) (at : ℕ) (i : Individual) (g : Group) (leader : Bool) : Type 0 where
  pub session : Free s
  pub ended : s.walk ≡ s.n
  pub group : group_in_range g.0 ≡ true
  pub listed : is_off_list at s.n s.entries ≡ false
  pub node : OnChain s.n i
  pub free : has_rival s i g leader ≡ false

pub regroup_says : (s : Session) (at : ℕ) (i : Individual) (g : Group) (leader : Bool) → regroup_check s at i g leader ≡ Ok tt → RegroupPasses s at i g leader
unfolding regroup_check
regroup_says s at i g leader h =
    let t = check_says s (regroup_tests s at i g leader) h in
    record {
      session = t.session;
      ended = ended_by s (regroup_tests s at i g leader) t refl;
      group = not-false (group_in_range g.0) t.ranged;
      listed = t.listed;
      node = on_chain_lem s.n i t.on_chain;
      free = t.unled;
    }

-- Set Baud Rate: a group of its range of a ready session, listed divisors, no known leader of the group and no place in doubt
pub record BaudRatePasses (s : Session) (at : ℕ) (g : Group) (d : ℕ) : Type 0 where
  pub session : Free s
  pub ended : s.walk ≡ s.n
  pub group : group_in_range g.0 ≡ true
  pub listed : is_off_list at s.n s.entries ≡ false
  pub settable : is_off_list d s.n s.entries ≡ false
  pub unanswerable : is_answerable g s.n s.entries ≡ false

pub baud_rate_says : (s : Session) (at : ℕ) (g : Group) (d : ℕ) → baud_rate_check s at g d ≡ Ok tt → BaudRatePasses s at g d
unfolding baud_rate_check
baud_rate_says s at g d h =
    let t = check_says s (baud_rate_tests s at g d) h in
    let u = neither (is_off_list at s.n s.entries) (is_off_list d s.n s.entries) t.listed in
    record {
      session = t.session;
      ended = ended_by s (baud_rate_tests s at g d) t refl;
      group = not-false (group_in_range g.0) t.ranged;
      listed = u.0;
      settable = u.1;
      unanswerable = t.unanswerable;
    }

-- a leader wish that is granted: no other node leads that group or has its place in doubt
pub wish_free : (s : Session) (i : Individual) (g : Group) → has_rival s i g true ≡ false → is_led i.0 g s.n s.entries ≡ false
unfolding has_rival
wish_free s i g h = h
