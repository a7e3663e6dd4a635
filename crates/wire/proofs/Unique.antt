-- A second result that meets a contract is equal to the first, for each public function.
use mathlib.Core.Path.{sym, ◌∙◌}
use denote.RattleType.{RattleType}
use denote.Param.Laws.{Laws, IsCopy}
use mir.Syntax.{Dict}
use Rattle.std.specs.declared.clone.Clone.{Ghosts}
use Rattle.wire.proofs.OneResult.{OneResult}
use Rattle.wire.proofs.refusal.Refusal.number.Reads as number
use Rattle.wire.proofs.refusal.number.Reads as number-by
use Rattle.wire.proofs.kind.Kind.is_gate.Reads as is-gate
use Rattle.wire.proofs.address.Individual.in_range.Reads as individual-in-range
use Rattle.wire.proofs.address.Group.in_range.Reads as group-in-range
use Rattle.wire.proofs.address.Address.of.Reads as address-of
use Rattle.wire.proofs.address.Address.in_range.Reads as address_in_range
use Rattle.wire.proofs.address.Address.byte.Reads as address-byte

pub number_unique : OneResult number.Post
number_unique κs a r r' s s' p q = p ∙ sym q

-- whatever a call gives where it is done
module _ (T : RattleType) (L : Laws T) (C : IsCopy T) (G : Ghosts T.Denot) (d : Dict) where
  pub number_by_unique : OneResult (number-by.Post T L C G d)
  number_by_unique κs a r r' s s' p q = p ∙ sym q

pub is_gate_unique : OneResult is-gate.Post
is_gate_unique κs a r r' s s' p q = p ∙ sym q

pub individual_in_range_unique : OneResult individual-in-range.Post
individual_in_range_unique κs a r r' s s' p q = p ∙ sym q

pub group_in_range_unique : OneResult group-in-range.Post
group_in_range_unique κs a r r' s s' p q = p ∙ sym q

pub address_of_unique : OneResult address-of.Post
address_of_unique κs a r r' s s' p q = p ∙ sym q

pub address_in_range_unique : OneResult address_in_range.Post
address_in_range_unique κs a r r' s s' p q = p ∙ sym q

pub address_byte_unique : OneResult address-byte.Post
address_byte_unique κs a r r' s s' p q = p ∙ sym q
