-- What a ready session sends: where the check is passed, its packet stands at the start of the buffer, or 5 leaves all as it stood.
use Prim.Native.Nat.{ℕ, ◌≤◌}
use Rattle.std.specs.Prelude.{Ok}
use mathlib.Core.Bool.{Bool, true, false}
use mathlib.Core.List.{List}
use mathlib.Core.Path.{◌≡◌, refl}
use borrow.Author.Tests.{not-false}
use Rattle.wire.specs.Address.{group_in_range, in_range}
use Rattle.wire.specs.declared.address.Individual.{Individual}
use Rattle.wire.specs.declared.address.Group.{Group}
use Rattle.wire.specs.declared.address.Address.{Address}
use Rattle.wire.specs.declared.address.Address.TheVariants as address
use Rattle.wire.specs.Numbers.{done}
use Rattle.command.specs.declared.Command.{Command}
use Rattle.command.specs.declared.Command.TheVariants.{SetAddress, SetBaudRate}
use Rattle.session.specs.declared.Session.{Session}
use Rattle.session.specs.Session.{off_chain, step_number}
use Rattle.session.proofs.Sessions.{on_chain_lem}
use Rattle.host.specs.Calls.{is_bad_group, order_check, regroup_check, baud_rate_check, order_of, regroup_of, set_baud_rate_of}
use Rattle.sending.proofs.Sent.{Sends, transmitted_sends, by_passed, node_fits, Went, went}
use Rattle.host.proofs.Passing.{order_says, regroup_says, baud_rate_says}

-- what an order may go to is of its range
pub to_fits : (n : ℕ) (to : Address) → n ≤ 31 → is_bad_group to ≡ false → off_chain n to ≡ false → in_range to ≡ true
to_fits n (address.Individual i) f p q = node_fits n i.0 f (on_chain_lem n i q).high
to_fits n (address.Group g) f p q = not-false (group_in_range g.0) p

pub order_sent : (s : Session) (at : ℕ) (to : Address) (c : Command) (out : List ℕ) → order_check s at to c ≡ Ok tt → Sends s at to to c out (order_of s at to c out)
unfolding order_of
order_sent s at to c out h =
    let t = order_says s at to c h in
    by_passed (order_check s at to c) s at to to c out _ h
    (transmitted_sends s at to to c out (to_fits s.n to t.session.valid.few t.group t.node) t.fits)

pub regroup_sent : (s : Session) (at : ℕ) (i : Individual) (g : Group) (leader : Bool) (out : List ℕ) → regroup_check s at i g leader ≡ Ok tt
    → Sends s at (address.Individual i) (address.Individual i) (SetAddress (record { address = i; group = g; leader = leader })) out (regroup_of s at i g leader out)
unfolding regroup_of
regroup_sent s at i g leader out h =
    let t = regroup_says s at i g leader h in
    let f = node_fits s.n i.0 t.session.valid.few t.node.high in
    by_passed (regroup_check s at i g leader) s at _ _ _ out _ h (transmitted_sends s at _ _ _ out f (rw (f, t.group)))

pub baud_rate_sent : (s : Session) (at : ℕ) (g : Group) (d : ℕ) (out : List ℕ) → baud_rate_check s at g d ≡ Ok tt
    → Sends s at (address.Group g) (address.Group g) (SetBaudRate d) out (set_baud_rate_of s at g d out)
unfolding set_baud_rate_of
baud_rate_sent s at g d out h =
    let t = baud_rate_says s at g d h in
    by_passed (baud_rate_check s at g d) s at _ _ _ out _ h (transmitted_sends s at _ _ _ out t.group refl)

module _ (s : Session) (at : ℕ) (out : List ℕ) where
  pub order_went : (to : Address) (c : Command) → step_number (order_of s at to c out).answer ≡ done → Went (order_check s at to c) s at to to c out (order_of s at to c out)
  unfolding order_of
  order_went to c d = went (order_check s at to c) s at to to c out _ (order_sent s at to c out) d

  pub regroup_went : (i : Individual) (g : Group) (leader : Bool) → step_number (regroup_of s at i g leader out).answer ≡ done
      → Went (regroup_check s at i g leader) s at (address.Individual i) (address.Individual i) (SetAddress (record { address = i; group = g; leader = leader })) out
      (regroup_of s at i g leader out)
  unfolding regroup_of
  regroup_went i g leader d = went (regroup_check s at i g leader) s at _ _ _ out _ (regroup_sent s at i g leader out) d

  pub baud_rate_went : (g : Group) (d : ℕ) → step_number (set_baud_rate_of s at g d out).answer ≡ done
      → Went (baud_rate_check s at g d) s at (address.Group g) (address.Group g) (SetBaudRate d) out (set_baud_rate_of s at g d out)
  unfolding set_baud_rate_of
  baud_rate_went g d e = went (baud_rate_check s at g d) s at _ _ _ out _ (baud_rate_sent s at g d out) e
