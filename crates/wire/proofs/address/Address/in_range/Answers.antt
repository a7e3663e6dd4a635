-- Each kind of address by its own range.
use mathlib.Core.Bool.{Bool}
use mathlib.Core.Path.{◌≡◌, sym, ap, ◌∙◌}
use Rattle.wire.specs.Address.{in_range, individual_in_range, group_in_range}
use Rattle.wire.specs.declared.address.Individual.{Individual}
use Rattle.wire.specs.declared.address.Group.{Group}
use Rattle.wire.specs.declared.address.Address.{Address}
use Rattle.wire.specs.declared.address.Address.TheVariants as address
use Rattle.wire.proofs.address.Address.in_range.Goals as goal

individual : (a : Address) (i : Individual) (r : Bool) → a ≡ address.Individual i → r ≡ individual_in_range i.0 → r ≡ in_range a
individual a i r e h = h ∙ sym (ap in_range e)

group : (a : Address) (g : Group) (r : Bool) → a ≡ address.Group g → r ≡ group_in_range g.0 → r ≡ in_range a
group a g r e h = h ∙ sym (ap in_range e)

pub returns-in-Individual : goal.returns-in-Individual
returns-in-Individual c = search individual

pub returns-in-Group : goal.returns-in-Group
returns-in-Group c = search group
