-- Any number but 0 leaves session and buffer as they stood.
use Prim.Native.Nat.{ℕ}
use mathlib.Core.Bool.{Bool}
use mathlib.Core.List.{List}
use Rattle.wire.specs.declared.address.Individual.{Individual}
use Rattle.wire.specs.declared.address.Group.{Group}
use Rattle.wire.specs.declared.address.Address.{Address}
use Rattle.command.specs.declared.Command.{Command}
use Rattle.session.specs.declared.Session.{Session}
use Rattle.host.specs.Calls.{order_check, regroup_check, baud_rate_check, order_of, regroup_of, set_baud_rate_of}
use Rattle.sending.proofs.Stands.{Stands, transmitted_stands, check_stands}

module _ (s : Session) (at : ℕ) (out : List ℕ) where
  pub order_stands : (to : Address) (c : Command) → Stands s out (order_of s at to c out)
  unfolding order_of
  order_stands to c = check_stands (order_check s at to c) s out _ (transmitted_stands s at to to c out)

  pub regroup_stands : (i : Individual) (g : Group) (leader : Bool) → Stands s out (regroup_of s at i g leader out)
  unfolding regroup_of
  regroup_stands i g leader = check_stands (regroup_check s at i g leader) s out _ (transmitted_stands s at _ _ _ out)

  pub baud_rate_stands : (g : Group) (d : ℕ) → Stands s out (set_baud_rate_of s at g d out)
  unfolding set_baud_rate_of
  baud_rate_stands g d = check_stands (baud_rate_check s at g d) s out _ (transmitted_stands s at _ _ _ out)
