-- NODE: what a node of the chain holds, "KIND, divisor, address, group, leader (00/01), addressed (00/01), mask, and then by its kind".
use Rattle.std.specs.Prelude.{ℕ, Bool, cond, ◌&&◌, List, [], ◌∷◌, map, eqb, ltb, leb, length, take, drop}
use Rattle.wire.specs.declared.kind.Kind.{Kind}
use Rattle.wire.specs.declared.kind.Kind.TheVariants.{Gate, Drive}
use Rattle.fields.specs.declared.answer.Answer.{Answer}
use Rattle.fields.specs.Answer.{answer_put, answer_put_flag, answer_put_word, answer_put_long, answer_put_all}
use Rattle.fields.specs.Field.{fields_byte, fields_word, fields_long}
use Rattle.fields.specs.Kind.{is_kind, read_kind, answer_put_kind}
use Rattle.fields.specs.Record.{records_from, records_length, all_are, put_each}
use Rattle.node.specs.declared.state.Bench.{Bench}
use Rattle.node.specs.declared.state.Captured.{Captured}
use Rattle.node.specs.declared.state.Node.{Node}
use Rattle.layout.specs.Settings.{read_place, read_settings, put_place, put_settings}

-- how many bytes a record has, with its KIND
abbrev pub node_bytes : Kind → ℕ
node_bytes Gate = 33
node_bytes Drive = 65

unfoldable pub node_length : List ℕ → ℕ
node_length s = node_bytes (read_kind (fields_byte s 0))

-- its KIND is one, all of it is there, and its flags, leader and addressed, are 00 or 01
unfoldable pub is_node : List ℕ → Bool
is_node s = is_kind (fields_byte s 0) && leb (node_length s) (length s) && ltb (fields_byte s 4) 2 && ltb (fields_byte s 5) 2

-- so many records are there, and "n = 00 to 21 hex"
unfoldable pub are_nodes : List ℕ → ℕ → Bool
are_nodes s n = leb n 33 && all_are is_node (records_from node_length n s)

-- how many bytes so many records have, where a line may lend them
unfoldable pub nodes_length : List ℕ → ℕ → ℕ
nodes_length s n = cond (leb n 33) (records_length node_length n s) 0

-- "inputs (2), counter (4), analog 0, 1, 2, device ID, version"
unfoldable pub gate_bench : List ℕ → Bench
gate_bench s = record {
  counter = fields_long s 2;
  home = 0;
  inputs = fields_word s 0;
  velocity = 0;
  error = 0;
  analog0 = fields_byte s 6;
  analog1 = fields_byte s 7;
  analog2 = fields_byte s 8;
  ad = 0;
  auxiliary = 0;
  id = fields_byte s 9;
  version = fields_byte s 10;
}

-- "position(4), A/D value, velocity(2), auxiliary status, home position(4), device ID, version, position error(2)"
unfoldable pub drive_bench : List ℕ → Bench
drive_bench s = record {
  counter = 0;
  home = fields_long s 8;
  inputs = 0;
  velocity = fields_word s 5;
  error = fields_word s 14;
  analog0 = 0;
  analog1 = 0;
  analog2 = 0;
  ad = fields_byte s 4;
  auxiliary = fields_byte s 7;
  id = fields_byte s 12;
  version = fields_byte s 13;
}

-- "captured inputs (2), captured counter (4)"
unfoldable pub read_captured : List ℕ → Captured
read_captured s = record { counter = fields_long s 2; inputs = fields_word s 0 }

-- behind its KIND, of a gate: divisor, place (3), addressed, the settings behind the place (10), bench values (11), captured ones (6)
unfoldable pub read_gate_node : List ℕ → Node
read_gate_node s = record {
  settings = read_settings Gate (fields_byte s 0) (read_place (drop 1 s)) (drop 5 s);
  bench = gate_bench (drop 15 s);
  captured = read_captured (drop 26 s);
  position = 0;
  addressed = eqb (fields_byte s 4) 1;
  kind = Gate;
}

-- of a drive: divisor, place (3), addressed, the settings behind the place (43), position and bench values (16)
unfoldable pub read_drive_node : List ℕ → Node
read_drive_node s = record {
  settings = read_settings Drive (fields_byte s 0) (read_place (drop 1 s)) (drop 5 s);
  bench = drive_bench (drop 48 s);
  captured = record { counter = 0; inputs = 0 };
  position = fields_long (drop 48 s) 0;
  addressed = eqb (fields_byte s 4) 1;
  kind = Drive;
}

abbrev pub node_by : Kind → List ℕ → Node
node_by Gate s = read_gate_node s
node_by Drive s = read_drive_node s

-- the record at the start of s
unfoldable pub read_node : List ℕ → Node
read_node s = node_by (read_kind (fields_byte s 0)) (drop 1 s)

-- as many as a table has room for; past the line's end all is 0
unfoldable pub read_nodes : List ℕ → List Node
read_nodes s = map read_node (records_from node_length 33 s)

-- bench values more in an answer, and captured ones
unfoldable pub put_gate_bench : Answer → Bench → Answer
put_gate_bench a b =
    answer_put_all (answer_put_long (answer_put_word a b.inputs) b.counter) (b.analog0 ∷ b.analog1 ∷ b.analog2 ∷ b.id ∷ b.version ∷ [])

unfoldable pub put_captured : Answer → Captured → Answer
put_captured a k = answer_put_long (answer_put_word a k.inputs) k.counter

unfoldable pub put_drive_bench : Answer → ℕ → Bench → Answer
put_drive_bench a p b =
    answer_put_word (answer_put (answer_put (answer_put_long (answer_put (answer_put_word (answer_put (answer_put_long a p) b.ad) b.velocity) b.auxiliary) b.home) b.id) b.version) b.error

-- what stands behind the settings, by the kind
unfoldable pub put_shown : Answer → Kind → Node → Answer
put_shown a Gate n = put_captured (put_gate_bench a n.bench) n.captured
put_shown a Drive n = put_drive_bench a n.position n.bench

-- a record
unfoldable pub put_node : Answer → Node → Answer
put_node a n =
    put_shown (put_settings (answer_put_flag (put_place (answer_put (answer_put_kind a n.kind) n.settings.divisor) n.settings.place) n.addressed) n.kind n.settings) n.kind n

-- "NODE*n"
unfoldable pub put_nodes : Answer → List Node → ℕ → Answer
put_nodes a ns n = put_each put_node a (take n ns)
