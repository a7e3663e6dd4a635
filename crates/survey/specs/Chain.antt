-- Document 01, "The chain": what a packet, sent at a divisor, does to a list of nodes, and what is then said on the line.
use Rattle.std.specs.Prelude.{ℕ, zero, suc, Bool, true, false, cond, ◌&&◌, List, [], ◌∷◌, get_or, slice_index_or}
use Rattle.wire.specs.declared.address.Address.{Address}
use Rattle.wire.specs.declared.kind.Kind.TheVariants.{Gate}
use Rattle.node.specs.declared.state.Bench.{Bench}
use Rattle.node.specs.declared.state.Node.{Node}
use Rattle.node.specs.Setting.{zeroed}
use Rattle.node.specs.Node.{nothing, bench_blank}
use Rattle.message.specs.declared.Messages.{Messages}
use Rattle.message.specs.Message.{is_answered, message_to}
use Rattle.reply.specs.Reply.{reply_of}
use Rattle.survey.specs.declared.sets.Replier.{Replier}
use Rattle.survey.specs.declared.sets.Replier.TheVariants.{None, One, Several}
use Rattle.survey.specs.One.{does_hear, is_answering, does_reply, turned, is_ranged}

-- each node after the packet; "Who hears is fixed before the packet acts", "Places are those before the packet acts"
abbrev pub turned_from : ℕ → Address → Messages → Bool → List Node → List Node
turned_from at to h near [] = []
turned_from at to h near (n ∷ ns) = turned at to h near n ∷ turned_from at to h n.addressed ns

-- the nodes after a packet
unfoldable pub after : ℕ → Address → Messages → List Node → List Node
after at to h ns = turned_from at to h true ns

-- the indices of those that reply, in order, from index i on
abbrev pub repliers_from : ℕ → Address → ℕ → Bool → List Node → List ℕ
repliers_from at to i near [] = []
repliers_from at to i near (n ∷ ns) =
    cond (does_reply at to near n) (i ∷ repliers_from at to (suc i) n.addressed ns) (repliers_from at to (suc i) n.addressed ns)

-- "the chain is searched in order and left at the second replier"
abbrev pub search_of : List ℕ → Replier
search_of [] = None
search_of (i ∷ []) = One i
search_of (i ∷ j ∷ is) = Several

-- who replies to a packet that is answered
unfoldable pub replier_in : ℕ → Address → List Node → Replier
replier_in at to ns = search_of (repliers_from at to 0 true ns)

-- what is said on the line: nothing, one reply, several at once
pub data Said : Type 0 where
  silence : Said
  reply : List ℕ → Said
  collided : Said

-- bench values 0
abbrev pub zeros : Bench
zeros = bench_blank

-- what an index past a list's end reads as: all zero
abbrev pub blank_node : Node
blank_node = record {
  settings = zeroed;
  bench = zeros;
  captured = nothing;
  position = 0;
  addressed = false;
  kind = Gate;
}

-- a node replies to what the packet says to its kind
abbrev pub reply_for : Messages → Node → List ℕ
reply_for h n = reply_of (message_to n.kind h) n

-- "One replier: its packet ..  None: nothing .. Two or more: .."
abbrev pub said_by : Messages → List Node → Replier → Said
said_by h ns None = silence
said_by h ns (One i) = reply (reply_for h (slice_index_or ns i blank_node))
said_by h ns Several = collided

-- "and the command isn't an intact Hard Reset of count 0": a shared command, which reads alike to either kind
unfoldable pub said : ℕ → Address → Messages → List Node → Said
said at to h ns = cond (is_answered h.gate) (said_by h ns (replier_in at to ns)) silence

-- each record is in range
abbrev pub all_ranged : List Node → Bool
all_ranged [] = true
all_ranged (n ∷ ns) = is_ranged n.settings.place && all_ranged ns

-- a node by its index: "is first, or the node before it is addressed"
abbrev pub near_at : Bool → List Node → ℕ → Bool
near_at near ns zero = near
near_at near ns (suc i) = (get_or ns i blank_node).addressed

abbrev pub hears_at : ℕ → List Node → ℕ → Bool
hears_at at ns i = does_hear at (near_at true ns i) (slice_index_or ns i blank_node)

-- it replies, if the packet is answered at all
abbrev pub replies_at : ℕ → Address → List Node → ℕ → Bool
replies_at at to ns i = hears_at at ns i && is_answering to (get_or ns i blank_node).settings.place
