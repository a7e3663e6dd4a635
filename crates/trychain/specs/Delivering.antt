-- The line `20 room divisor n NODE*n packet..` of the program `trials`: "deliver a packet: `NN len buffer NODE*n`".
use Rattle.std.specs.Prelude.{ℕ, cond, ◌&&◌, List, ltb, take, drop, Result, Ok, Err}
use Rattle.wire.specs.Promise.{Outcome}
use Rattle.wire.specs.declared.refusal.Refusal.{Refusal}
use Rattle.fields.specs.declared.answer.Answer.{Answer}
use Rattle.fields.specs.Answer.{fields_nothing, answer_put, answer_put_all, malformed_of}
use Rattle.fields.specs.Field.{fields_byte}
use Rattle.fields.specs.Lending.{most_room, filled_of, room_of, is_lending}
use Rattle.layout.specs.Nodes.{are_nodes, nodes_length, read_nodes, put_nodes}
use Rattle.survey.specs.declared.decision.Delivery.{Delivery}
use Rattle.survey.specs.declared.decision.Delivery.TheVariants.{Silent, Replied, Collision}
use Rattle.survey.specs.Delivery.{delivery_number}
use Rattle.table.specs.declared.Delivered.{Delivered}
use Rattle.table.specs.Table.{table_deliver}

-- "len is the length of the reply, 00 for none, a collision or a refusal"
abbrev pub reply_length : Result Delivery Refusal → ℕ
reply_length (Ok Silent) = 0
reply_length (Ok (Replied n)) = cond (ltb n 256) n 0
reply_length (Ok Collision) = 0
reply_length (Err why) = 0

-- "NN len buffer NODE*n"
unfoldable pub put_delivered : Delivered → List ℕ → ℕ → Answer
put_delivered d buffer n =
    put_nodes (answer_put_all (answer_put (answer_put fields_nothing (delivery_number d.answer)) (reply_length d.answer)) buffer) d.table.nodes n

abbrev pub put_outcome : Outcome Delivered (List ℕ) → ℕ → Answer
put_outcome o n = put_delivered o.answer o.left n

-- "the packet is sent at that divisor", and stands behind n node records, "lent, for that line alone"
unfoldable pub deliver_to : ℕ → List ℕ → ℕ → List ℕ → Answer
deliver_to at records n buffer = put_outcome (table_deliver (record { nodes = read_nodes records; count = n }) at (drop (nodes_length records n) records) buffer) n

-- "room divisor n NODE*n packet..", else FF
unfoldable pub trychain_deliver : List ℕ → Answer
trychain_deliver args =
    cond
    (is_lending args 3 most_room && are_nodes (drop 3 args) (fields_byte args 2))
    (deliver_to (fields_byte args 1) (drop 3 args) (fields_byte args 2) (take (room_of args most_room) filled_of))
    malformed_of
