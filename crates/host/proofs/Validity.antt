-- Order, regroup and Set Baud Rate keep a valid session valid.
use Prim.Native.Nat.{ℕ}
use Rattle.std.specs.Prelude.{Ok}
use mathlib.Core.Bool.{Bool, false}
use mathlib.Core.List.{List}
use mathlib.Core.Path.{◌≡◌, refl}
use borrow.Author.Tests.{le-ltb}
use Rattle.wire.specs.declared.address.Individual.{Individual}
use Rattle.wire.specs.declared.address.Group.{Group}
use Rattle.wire.specs.declared.address.Address.{Address}
use Rattle.wire.specs.declared.address.Address.TheVariants as address
use Rattle.command.specs.declared.Command.{Command}
use Rattle.session.specs.declared.Session.{Session}
use Rattle.session.specs.Session.{Valid, off_chain}
use Rattle.host.specs.Calls.{order_check, regroup_check, baud_rate_check, order_of, regroup_of, set_baud_rate_of}
use Rattle.sending.proofs.Validity.{transmitted_valid, check_valid}
use Rattle.host.proofs.Passing.{order_says, regroup_says}

regroup_node : (s : Session) (at : ℕ) (i : Individual) (g : Group) (leader : Bool) → regroup_check s at i g leader ≡ Ok tt → off_chain s.n (address.Individual i) ≡ false
regroup_node s at i g leader k =
    let t = (regroup_says s at i g leader k).node in
    rw (le-ltb i.0 1 t.low, le-ltb s.n i.0 t.high)

module _ (s : Session) (at : ℕ) (out : List ℕ) (h : Valid s) where
  pub order_valid : (to : Address) (c : Command) → Valid (order_of s at to c out).answer.session
  unfolding order_of
  order_valid to c = check_valid (order_check s at to c) s out _ h (λ k. transmitted_valid s at to to c out h (order_says s at to c k).node)

  pub regroup_valid : (i : Individual) (g : Group) (leader : Bool) → Valid (regroup_of s at i g leader out).answer.session
  unfolding regroup_of
  regroup_valid i g leader = check_valid (regroup_check s at i g leader) s out _ h (λ k. transmitted_valid s at _ _ _ out h (regroup_node s at i g leader k))

  pub baud_rate_valid : (g : Group) (d : ℕ) → Valid (set_baud_rate_of s at g d out).answer.session
  unfolding set_baud_rate_of
  baud_rate_valid g d = check_valid (baud_rate_check s at g d) s out _ h (λ k. transmitted_valid s at _ _ _ out h refl)
