-- Document 01, the bench program: "a decimal node count, then per line one packet". What it writes for what it reads; with document 02, request 7.
use Rattle.std.specs.Prelude.{ℕ, cond, List, [], ◌∷◌, ◌++◌, ltb, length, replicate, Option, Some, None}
use Rattle.wire.specs.Promise.{Outcome}
use Rattle.wire.specs.Numbers.{most_nodes}
use Rattle.wire.specs.declared.kind.Kind.TheVariants.{Gate}
use Rattle.wire.specs.declared.refusal.Refusal.TheVariants.{Range}
use Rattle.status.specs.Status.{most_reply}
use Rattle.node.specs.Effect.{divisor_up}
use Rattle.node.specs.Node.{power_up}
use Rattle.survey.specs.Chain.{zeros}
use Rattle.table.specs.declared.Table.{Table}
use Rattle.table.specs.declared.Delivered.{Delivered}
use Rattle.table.specs.Table.{table_room, table_deliver}
use Rattle.text.specs.Lines.{lines_of}
use Rattle.text.specs.Digits.{read_decimal}
use Rattle.hexadecimal.specs.Hex.{Content, bytes, malformed, bytes_in}
use Rattle.script.specs.Answers.{answer_line, refused_line}

-- "All nodes start in power-up state, bench values 0"; each is a gate, an LS-773
unfoldable pub start_of : ℕ → Table
start_of k = record { nodes = replicate table_room (power_up Gate zeros); count = k }

-- ---- a line

-- the chain after a line, and what is written for it
pub record Stepped : Type 0 where
  pub table : Table
  pub line : List ℕ

-- the chain's answer to a packet; it has room for the longest reply
abbrev pub answer_step : Outcome Delivered (List ℕ) → Stepped
answer_step o = record { table = o.answer.table; line = answer_line o.answer.answer o.left }

-- 6: "bench line not of its form"
abbrev pub refuse_step : Table → Stepped
refuse_step t = record { table = t; line = refused_line Range }

-- "sends every line at 0x3F", which is the divisor of power-up
abbrev pub on_content : Table → Content → Stepped
on_content t (bytes p) = answer_step (table_deliver t divisor_up p (replicate most_reply 0))
on_content t malformed = refuse_step t

unfoldable pub play_of : Table → List ℕ → Stepped
play_of t l = on_content t (bytes_in l)

-- ---- all of them

-- "Per packet line it writes .."
unfoldable pub run_of : Table → List (List ℕ) → List ℕ
run_of t [] = []
run_of t (l ∷ ls) = (play_of t l).line ++ run_of (play_of t l).table ls

-- "A bad count, or longer input, gives one line "refused 6""
abbrev pub wrong : List ℕ
wrong = refused_line Range

-- "The count is 1 to 31 without a leading zero"
unfoldable pub run_with : ℕ → List (List ℕ) → List ℕ
run_with n ls = cond (ltb n 1) wrong (cond (ltb most_nodes n) wrong (run_of (start_of n) ls))

abbrev pub on_decimal : Option ℕ → List (List ℕ) → List ℕ
on_decimal (Some n) ls = run_with n ls
on_decimal None ls = wrong

-- the first line is the count
abbrev pub on_lines : List (List ℕ) → List ℕ
on_lines [] = wrong
on_lines (l ∷ ls) = on_decimal (read_decimal l) ls

-- "reads up to 64 KiB"
unfoldable pub rehearse_of : List ℕ → List ℕ
rehearse_of s = cond (ltb 65536 (length s)) wrong (on_lines (lines_of s))
