-- Several replies at once come from two nodes.
use Rattle.std.proofs.Common.{◌≡◌, ℕ, true, List}
use Rattle.wire.specs.declared.address.Address.{Address}
use Rattle.wire.proofs.Choice.{chose_first}
use Rattle.wire.proofs.Impossible.{impossible}
use Rattle.node.specs.declared.state.Node.{Node}
use Rattle.message.specs.declared.Messages.{Messages}
use Rattle.message.specs.Message.{is_answered}
use Rattle.survey.specs.Chain.{repliers_from, replier_in, collided, said}
use Rattle.survey.proofs.Repliers.{Replies, repliers_rise, Two, two_speak}

pub collision_two : (at : ℕ) (to : Address) (h : Messages) (l : List Node) → said at to h l ≡ collided → Two (Replies at to l)
unfolding said replier_in
collision_two at to h l e =
    two_speak (Replies at to l) h l (repliers_from at to 0 true l) (repliers_rise at to l) (chose_first (is_answered h.gate) e (λ z. impossible cc)).1
