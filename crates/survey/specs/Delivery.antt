-- Document 01, "The chain" and "Numbers returned", with document 02, requests 2 and 7: a packet delivered, at the divisor `at`, to a lent table of nodes.
use Rattle.std.specs.Prelude.{ℕ, Bool, cond, ◌&&◌, List, length, nat_le, nat_lt, Result, Ok, Err}
use Rattle.packet.specs.declared.Framed.{Framed}
use Rattle.wire.specs.Promise.{Outcome}
use Rattle.wire.specs.Numbers.{done, collision, most_nodes, number_of}
use Rattle.buffer.specs.Buffer.{written}
use Rattle.wire.specs.declared.address.Address.{Address}
use Rattle.wire.specs.declared.refusal.Refusal.{Refusal}
use Rattle.wire.specs.declared.refusal.Refusal.TheVariants.{Long, Range}
use Rattle.packet.specs.Packet.{frame_of, whole}
use Rattle.node.specs.declared.state.Node.{Node}
use Rattle.message.specs.declared.Messages.{Messages}
use Rattle.survey.specs.declared.decision.Delivery.{Delivery}
use Rattle.survey.specs.declared.decision.Delivery.TheVariants.{Silent, Replied, Collision}
use Rattle.survey.specs.One.{messages_as}
use Rattle.survey.specs.Chain.{after, Said, said, silence, reply, collided, all_ranged}

-- what is lent: the table's nodes, and the buffer for a reply
pub record Lent : Type 0 where
  pub nodes : List Node
  pub reply : List ℕ

-- "table length not 1 to 31", or a record out of range
unfoldable pub valid : List Node → Bool
valid ns = nat_le 1 (length ns) && nat_le (length ns) most_nodes && all_ranged ns

-- "All numbers but 0 and 13 .. leave .. chain and buffers as they stood"
abbrev pub refused_delivery : Refusal → List Node → List ℕ → Outcome (Result Delivery Refusal) Lent
refused_delivery why ns out = record { answer = Err why; left = record { nodes = ns; reply = out } }

abbrev pub acted : Delivery → ℕ → Address → Messages → List Node → List ℕ → Outcome (Result Delivery Refusal) Lent
acted answer at to h ns out = record { answer = Ok answer; left = record { nodes = after at to h ns; reply = out } }

-- the one reply "goes to the start of the reply buffer, the rest of the buffer stays"; 5 where it has no room, "tested .. before any node acts"
abbrev pub on_built : Result ℕ Refusal → ℕ → Address → Messages → List Node → List ℕ → Outcome (Result Delivery Refusal) Lent
on_built (Ok n) at to h ns out = acted (Replied n) at to h ns out
on_built (Err why) at to h ns out = refused_delivery why ns out

-- "None: nothing is written. Two or more: they act, nothing is written, and 13 is returned"
abbrev pub on_said : Said → ℕ → Address → Messages → List Node → List ℕ → Outcome (Result Delivery Refusal) Lent
on_said silence at to h ns out = acted Silent at to h ns out
on_said (reply r) at to h ns out = on_built (written r out).answer at to h ns (written r out).left
on_said collided at to h ns out = acted Collision at to h ns out

unfoldable pub delivered_to : ℕ → Address → Messages → List Node → List ℕ → Outcome (Result Delivery Refusal) Lent
delivered_to at to h ns out = on_said (said at to h ns) at to h ns out

-- "the chain and bench program then refuse left-over bytes with 3 themselves": 3, unless what reading finds ends where the bytes do
abbrev pub alone : List ℕ → Result Framed Refusal → Result Framed Refusal
alone p (Ok g) = cond (nat_lt g.end (length p)) (Err Long) (Ok g)
alone p (Err why) = Err why

-- "then 1, 2, 3 in reading order"
unfoldable pub frame_alone : List ℕ → Result Framed Refusal
frame_alone p = alone p (frame_of p)

-- "Wrong sum isn't refused by the chain"
abbrev pub on_frame : ℕ → Result Framed Refusal → List ℕ → List Node → List ℕ → Outcome (Result Delivery Refusal) Lent
on_frame at (Ok g) p ns out = delivered_to at g.address (messages_as g.address g.command p) ns out
on_frame at (Err why) p ns out = refused_delivery why ns out

-- "For the chain 6 comes first"
unfoldable pub deliver_of : List Node → ℕ → List ℕ → List ℕ → Outcome (Result Delivery Refusal) Lent
deliver_of ns at p out = cond (valid ns) (on_frame at (frame_alone p) p ns out) (refused_delivery Range ns out)

-- the number of a delivery, or of its refusal
abbrev pub delivery_number : Result Delivery Refusal → ℕ
delivery_number (Ok Silent) = done
delivery_number (Ok (Replied n)) = done
delivery_number (Ok Collision) = collision
delivery_number (Err why) = number_of why
