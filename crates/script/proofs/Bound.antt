-- The output is never longer than ten times 64 KiB, so that in this room no rehearsal is refused; and 5 leaves the output as it stood.
use Prim.Native.Nat.{ℕ, suc, ◌+◌, ◌*◌, ◌≤◌, ◌<◌}
use Rattle.std.specs.Prelude.{Option, Some, None, ℕ}
use mathlib.Core.Bool.{Bool, true, false, cond}
use mathlib.Core.List.{List, [], ◌∷◌}
use mathlib.Core.Path.{◌≡◌, refl}
use native.Mathlib.Omega.{arith}
use lib.Dec.{eqb, ltb}
use lib.ListN.{length, replicate, take, length-append, length-take}
use borrow.Author.Tests.{le-ltb, ltb-true, ltb-false}
use Rattle.std.specs.Prelude.{Result, Ok, Err}
use Rattle.wire.specs.Promise.{Outcome}
use Rattle.wire.specs.Numbers.{most_nodes}
use Rattle.buffer.specs.Buffer.{at_start, written}
use Rattle.wire.specs.declared.refusal.Refusal.{Refusal}
use Rattle.wire.specs.declared.refusal.Refusal.TheVariants.{Range}
use Rattle.text.specs.Lines.{newline, lines_of, grown}
use Rattle.text.specs.Digits.{decimal_of, read_decimal}
use Rattle.hexadecimal.specs.Hex.{hex_text, Content, bytes, malformed, bytes_in}
use Rattle.hexadecimal.proofs.Puts.{length_line}
use Rattle.hexadecimal.proofs.Meaning.{read_written}
use Rattle.status.specs.Status.{most_reply}
use Rattle.node.specs.Effect.{divisor_up}
use Rattle.table.specs.declared.Table.{Table}
use Rattle.survey.specs.declared.decision.Delivery.{Delivery}
use Rattle.survey.specs.declared.decision.Delivery.TheVariants.{Silent, Replied, Collision}
use Rattle.survey.specs.Delivery.{Lent}
use Rattle.survey.proofs.Lengths.{deliver_brief, deliver_left}
use Rattle.table.specs.Table.{nodes_of, kept_by, table_deliver}
use Rattle.script.specs.Answers.{number_end, answer_line}
use Rattle.script.specs.Bench.{answer_step, on_content, play_of, run_of, wrong, run_with, on_decimal, on_lines, rehearse_of, start_of}
use Rattle.script.proofs.TextLines.{line_short, refused_short}

-- the output for the input's longest, 65536 bytes
abbrev pub most : ℕ
most = 655360

-- ---- a line: ten characters for each one of its input line and its newline

answer_short : (a : Result Delivery Refusal) (b : List ℕ) → length b ≤ most_reply → length (answer_line a b) ≤ 57
answer_short (Ok Silent) b h = omega arith
answer_short (Ok (Replied n)) b h = line_short (take n b) (omega (arith, length-take n b))
answer_short (Ok Collision) b h = omega arith
answer_short (Err why) b h = omega (arith, refused_short why)

-- four bytes have eleven characters
long_enough : (p : List ℕ) → 4 ≤ length p → 11 ≤ length (hex_text p)
long_enough p h = omega (arith, length_line p (omega arith), length-append (hex_text p) (newline ∷ []))

module _ (t : Table) (l : List ℕ) where
  brief : (p : List ℕ) → length p < 4 → length (answer_step (table_deliver t divisor_up p (replicate most_reply 0))).line ≤ 10
  unfolding number_end decimal_of table_deliver
  brief p h = deliver_brief (nodes_of t) divisor_up p (replicate most_reply 0) h (λ (o : Outcome (Result Delivery Refusal) Lent). length (answer_step (kept_by t o)).line ≤ 10) (omega arith) (omega arith) (omega arith)

  any : (p : List ℕ) → length (answer_step (table_deliver t divisor_up p (replicate most_reply 0))).line ≤ 57
  unfolding table_deliver
  any p =
      let z : length (table_deliver t divisor_up p (replicate most_reply 0)).left ≡ most_reply = deliver_left (nodes_of t) divisor_up p (replicate most_reply 0) in
      answer_short (table_deliver t divisor_up p (replicate most_reply 0)).answer.answer (table_deliver t divisor_up p (replicate most_reply 0)).left (omega arith)

  by_length : (p : List ℕ) (b : Bool) → ltb (length p) 4 ≡ b → l ≡ hex_text p → length (answer_step (table_deliver t divisor_up p (replicate most_reply 0))).line ≤ 10 * (length l + 1)
  by_length p true e f = omega (arith, brief p (ltb-true (length p) 4 e))
  by_length p false e f =
      let k : 11 ≤ length l = rw f (long_enough p (ltb-false (length p) 4 e)) in
      omega (arith, any p)

  by_content : (c : Content) → bytes_in l ≡ c → length (on_content t c).line ≤ 10 * (length l + 1)
  unfolding number_end decimal_of
  by_content malformed e = omega arith
  by_content (bytes p) e = by_length p (ltb (length p) 4) refl (read_written l p e).same

  step_short : length (play_of t l).line ≤ 10 * (length l + 1)
  unfolding play_of
  step_short = by_content (bytes_in l) refl

-- ---- all lines

-- the characters of some lines with their newlines
abbrev total : List (List ℕ) → ℕ
total [] = 0
total (l ∷ ls) = (length l + 1) + total ls

played_short : (t : Table) (ls : List (List ℕ)) → length (run_of t ls) ≤ 10 * total ls
unfolding run_of
played_short t [] = omega arith
played_short t (l ∷ ls) =
    omega (arith, step_short t l, played_short (play_of t l).table ls, length-append (play_of t l).line (run_of (play_of t l).table ls))

grown_total : (b : ℕ) (ls : List (List ℕ)) (n : ℕ) → total ls ≤ n + 1 → total (grown b ls) ≤ suc n + 1
grown_total b [] n h = omega arith
grown_total b (l ∷ ls) n h = omega arith

lines_total : (s : List ℕ) → total (lines_of s) ≤ length s + 1
lines_total [] = omega arith
lines_total (b ∷ s) = go (eqb b newline) (lines_total s)
  where
    go : (t : Bool) → total (lines_of s) ≤ length s + 1 → total (cond t ([] ∷ lines_of s) (grown b (lines_of s))) ≤ suc (length s) + 1
    go true h = omega arith
    go false h = grown_total b (lines_of s) (length s) h

-- ---- the whole output

wrong_short : length wrong ≤ 11
wrong_short = refused_short Range

count_short : (n : ℕ) (ls : List (List ℕ)) → total ls ≤ 65536 → length (run_with n ls) ≤ most
unfolding run_with
count_short n ls h = go (ltb n 1) (ltb most_nodes n)
  where
    go : (t u : Bool) → length (cond t wrong (cond u wrong (run_of (start_of n) ls))) ≤ most
    go true u = omega (arith, wrong_short)
    go false true = omega (arith, wrong_short)
    go false false = omega (arith, played_short (start_of n) ls)

decimal_short : (q : Option ℕ) (ls : List (List ℕ)) → total ls ≤ 65536 → length (on_decimal q ls) ≤ most
decimal_short (Some n) ls h = count_short n ls h
decimal_short None ls h = omega (arith, wrong_short)

lines_short : (ls : List (List ℕ)) → total ls ≤ 65537 → length (on_lines ls) ≤ most
lines_short [] h = omega (arith, wrong_short)
lines_short (l ∷ ls) h = decimal_short (read_decimal l) ls (omega arith)

pub bench_short : (s : List ℕ) → length (rehearse_of s) ≤ most
unfolding rehearse_of
bench_short s = go (ltb 65536 (length s)) refl
  where
    go : (b : Bool) → ltb 65536 (length s) ≡ b → length (cond b wrong (on_lines (lines_of s))) ≤ most
    go true e = omega (arith, wrong_short)
    go false e =
        let k : length s ≤ 65536 = ltb-false 65536 (length s) e in
        lines_short (lines_of s) (omega (arith, lines_total s))

-- with that room no rehearsal is refused
pub never_refused : (s out : List ℕ) → most ≤ length out → written (rehearse_of s) out ≡ at_start (rehearse_of s) out
unfolding written
never_refused s out h = rw (le-ltb (length out) (length (rehearse_of s)) (omega (arith, bench_short s)))
