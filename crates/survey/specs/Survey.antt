-- Serves inner calls: how a delivery is done, which comes to what Delivery says. How it comes by its plan: a look at each node in order, then the tests of document 01 in their sequence.
use Rattle.std.specs.Prelude.{ℕ, ◌+◌, ◌%◌, ◌^◌, Bool, true, cond, ◌&&◌, List, [], ◌∷◌, length, nat_le, slice_get, Option, Some, None, Result, Ok, Err}
use Rattle.packet.specs.declared.Framed.{Framed}
use Rattle.packet.specs.Packet.{whole}
use Rattle.wire.specs.Numbers.{done, number_of, most_nodes}
use Rattle.wire.specs.declared.address.Address.{Address}
use Rattle.wire.specs.declared.refusal.Refusal.{Refusal}
use Rattle.wire.specs.declared.refusal.Refusal.TheVariants.{Range}
use Rattle.command.specs.declared.Place.{Place}
use Rattle.node.specs.declared.state.Node.{Node}
use Rattle.message.specs.declared.Messages.{Messages}
use Rattle.message.specs.Message.{is_answered}
use Rattle.survey.specs.declared.sets.Replier.{Replier}
use Rattle.survey.specs.declared.sets.Replier.TheVariants as replier
use Rattle.survey.specs.declared.plan.Incoming.{Incoming}
use Rattle.survey.specs.declared.plan.Seen.{Seen}
use Rattle.survey.specs.declared.plan.Plan.{Plan}
use Rattle.survey.specs.declared.plan.Survey.{Survey}
use Rattle.survey.specs.One.{does_act, does_reply, is_ranged, messages_as}
use Rattle.survey.specs.Chain.{search_of}
use Rattle.survey.specs.Delivery.{frame_alone}
use Rattle.survey.specs.Sets.{set_width, join_of, members}

-- a packet as it comes in, at a divisor, or why it is refused
abbrev pub receive_by : ℕ → Result Framed Refusal → List ℕ → Result Incoming Refusal
receive_by at (Ok g) p = Ok (record { to = g.address; at = at; messages = messages_as g.address g.command p })
receive_by at (Err why) p = Err why

unfoldable pub receive_of : ℕ → List ℕ → Result Incoming Refusal
receive_of at p = receive_by at (frame_alone p) p

-- the number that a packet is refused with before it comes to the nodes
abbrev pub incoming_number : Result Incoming Refusal → ℕ
incoming_number (Ok c) = done
incoming_number (Err why) = number_of why

-- nothing seen yet: the first node is near
abbrev pub chain_start : Seen
chain_start = record { near = true; weight = 1; acting = 0; replying = 0; ranged = true }

-- every record so far is in range
abbrev pub is_still_ranged : Bool → Place → Bool
is_still_ranged b p = b && is_ranged p

-- one node more
unfoldable pub glance_for : ℕ → Address → Seen → Node → Seen
glance_for at to s n = record {
  near = n.addressed;
  weight = (s.weight + s.weight) % 2 ^ set_width;
  acting = join_of s.acting s.weight (does_act at to s.near n);
  replying = join_of s.replying s.weight (does_reply at to s.near n);
  ranged = is_still_ranged s.ranged n.settings.place;
}

unfoldable pub glance_past : Seen → Node → Seen
glance_past s n = record { near = s.near; weight = s.weight; acting = s.acting; replying = s.replying; ranged = is_still_ranged s.ranged n.settings.place }

abbrev pub glance_of : Result Incoming Refusal → Seen → Node → Seen
glance_of (Ok c) s n = glance_for c.at c.to s n
glance_of (Err why) s n = glance_past s n

-- all of them
abbrev pub glances_of : Result Incoming Refusal → Seen → List Node → Seen
glances_of c s [] = s
glances_of c s (n ∷ ns) = glances_of c (glance_of c s n) ns

-- who replies, if the packet is answered at all: the nodes 0 to n - 1 are searched for those in the set s
unfoldable pub replier_to : Messages → ℕ → ℕ → Replier
replier_to h s n = cond (is_answered h.gate) (search_of (members n s)) replier.None

-- and who acts
abbrev pub plan_for : Messages → Seen → ℕ → Plan
plan_for h s n = record { replier = replier_to h s.replying n; acting = s.acting; messages = h }

abbrev pub plan_by : Result Incoming Refusal → Seen → ℕ → Result Plan Refusal
plan_by (Ok c) s n = Ok (plan_for c.messages s n)
plan_by (Err why) s n = Err why

-- the number of a plan: of one that delivers, it is the delivery's
abbrev pub plan_number : Result Plan Refusal → ℕ
plan_number (Ok p) = done
plan_number (Err why) = number_of why

-- "For the chain 6 comes first"
unfoldable pub plan_of : Result Incoming Refusal → Seen → ℕ → Result Plan Refusal
plan_of c s n = cond (nat_le 1 n && nat_le n most_nodes && s.ranged) (plan_by c s n) (Err Range)

-- the index of the one that replies, where one does alone
abbrev pub speaker_in : Replier → Option ℕ
speaker_in replier.None = None
speaker_in (replier.One i) = Some i
speaker_in replier.Several = None

abbrev pub speaker_of : Result Plan Refusal → Option ℕ
speaker_of (Ok p) = speaker_in p.replier
speaker_of (Err why) = None

-- the node of an index, where the table has it
abbrev pub speaker_node : Option ℕ → List Node → Option Node
speaker_node None ns = None
speaker_node (Some i) ns = slice_get ns i

-- the plan with the node that replies
abbrev pub survey_by : Result Plan Refusal → List Node → Survey
survey_by p ns = record { plan = p; speaker = speaker_node (speaker_of p) ns }

unfoldable pub survey_all : Result Incoming Refusal → List Node → Survey
survey_all c ns = survey_by (plan_of c (glances_of c chain_start ns) (length ns)) ns
