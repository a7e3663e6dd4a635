-- The lines of the program `trials` that try packets: what each is answered, by the bytes behind its first.
use Rattle.std.specs.Prelude.{ℕ, cond, List, [], ◌∷◌, ltb, length, take, drop, Result, Ok, Err}
use Rattle.wire.specs.declared.refusal.Refusal.{Refusal}
use Rattle.packet.specs.declared.Framed.{Framed}
use Rattle.wire.specs.Promise.{Outcome}
use Rattle.wire.specs.Numbers.{done, number_of, number_by}
use Rattle.wire.specs.Address.{byte_of}
use Rattle.wire.specs.declared.kind.Kind.{Kind}
use Rattle.packet.specs.Packet.{read_of, data_part}
use Rattle.packet.specs.Build.{build_of}
use Rattle.status.specs.Status.{items_part}
use Rattle.mask.specs.Mask.{mask_read}
use Rattle.fields.specs.declared.answer.Answer.{Answer}
use Rattle.fields.specs.Field.{fields_byte}
use Rattle.fields.specs.Kind.{is_kind, read_kind}
use Rattle.fields.specs.Lending.{most_room, filled_of, room_of, is_lending}
use Rattle.fields.specs.Answer.{malformed_of, numbered_of}

-- "the answer shows all of it afterwards": `NN buffer`
abbrev pub built_shown : Outcome (Result ℕ Refusal) (List ℕ) → Answer
built_shown o = numbered_of (number_by o.answer) o.left

-- a packet built in a lent buffer
unfoldable pub build_into : List ℕ → List ℕ → Answer
build_into s out = built_shown (build_of (fields_byte s 1) (fields_byte s 2) (drop 3 s) out)

-- "`10 room address command data..` build a packet: `NN buffer`"
unfoldable pub trypacket_build : List ℕ → Answer
trypacket_build s = cond (is_lending s 3 most_room) (build_into s (take (room_of s most_room) filled_of)) malformed_of

-- what reading a packet shows: where it ends and its parts, or the refusal
abbrev pub parts_shown : List ℕ → Result Framed Refusal → Answer
parts_shown s (Ok f) = numbered_of done (f.end ∷ byte_of f.address ∷ f.command ∷ data_part s)
parts_shown s (Err why) = numbered_of (number_of why) []

-- "`11 bytes..` read a packet: `00 end address command data..`, else `NN`"
unfoldable pub trypacket_read : List ℕ → Answer
trypacket_read s = parts_shown s (read_of s)

-- what reading a status packet shows: its status byte and items, or the refusal
abbrev pub status_shown : List ℕ → Result ℕ Refusal → Answer
status_shown s (Ok b) = numbered_of done (b ∷ items_part s)
status_shown s (Err why) = numbered_of (number_of why) []

-- a status packet of a kind of node, read under a mask
unfoldable pub read_under : Kind → ℕ → List ℕ → Answer
read_under k m s = status_shown s (mask_read k m s)

-- "`12 KIND mask bytes..` reads a status packet of that kind": `00 status items..`, else `NN`
unfoldable pub read_status : List ℕ → Answer
read_status s =
    cond (ltb (length s) 2) malformed_of
    (cond (is_kind (fields_byte s 0)) (read_under (read_kind (fields_byte s 0)) (fields_byte s 1) (drop 2 s)) malformed_of)
