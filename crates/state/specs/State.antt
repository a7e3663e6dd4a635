-- STATE, the host's session: "open (00/01), n, walk, EXCHANGE, ENTRY*31".
use Rattle.std.specs.Prelude.{ℕ, Bool, ◌&&◌, List, leb, eqb, take, drop}
use Rattle.session.specs.declared.Session.{Session}
use Rattle.fields.specs.declared.answer.Answer.{Answer}
use Rattle.fields.specs.Field.{fields_byte}
use Rattle.fields.specs.Answer.{answer_put, answer_put_flag}
use Rattle.layout.specs.Entries.{are_entries, read_entries, put_entries}
use Rattle.state.specs.Exchange.{exchange_length, is_exchange, read_exchange, put_exchange}

-- of what stands behind open, n and walk: the exchange, and the entries behind it
abbrev pub exchange_part : List ℕ → List ℕ
exchange_part s = take (exchange_length s) s

abbrev pub entries_part : List ℕ → List ℕ
entries_part s = drop (exchange_length s) s

-- s is a state
unfoldable pub is_state : List ℕ → Bool
is_state s = leb (fields_byte s 0) 1 && is_exchange (exchange_part (drop 3 s)) && are_entries (entries_part (drop 3 s))

-- the session of a state
unfoldable pub read_state : List ℕ → Session
read_state s = record {
  started = eqb (fields_byte s 0) 1;
  n = fields_byte s 1;
  walk = fields_byte s 2;
  exchange = read_exchange (exchange_part (drop 3 s));
  entries = read_entries (entries_part (drop 3 s));
}

-- STATE more
unfoldable pub put_state : Answer → Session → Answer
put_state a s = put_entries (put_exchange (answer_put (answer_put (answer_put_flag a s.started) s.n) s.walk) s.exchange) s.entries
