-- One line, and all lines, as the code plays them.
use Prim.Native.Nat.{ℕ, ◌+◌, ◌*◌, ◌≤◌}
use Rattle.std.specs.Prelude.{Option, Some, None}
use mathlib.Core.List.{List, [], ◌∷◌}
use mathlib.Core.Path.{◌≡◌, refl, sym, ap, ◌∙◌, subst}
use native.Mathlib.Omega.{arith}
use lib.ListN.{length, take, replicate}
use Rattle.wire.specs.Promise.{Outcome, Lending}
use Rattle.wire.proofs.Impossible.{impossible}
use Rattle.buffer.specs.Change.{AllBytes}
use Rattle.buffer.proofs.Bytes.{byte_at}
use Rattle.hexadecimal.specs.Hex.{Content, bytes, malformed, bytes_in, over, read_bytes, parsed_number}
use Rattle.hexadecimal.proofs.Meaning.{read_written}
use Rattle.status.specs.Status.{most_reply}
use Rattle.node.specs.Effect.{divisor_up}
use Rattle.table.specs.declared.Table.{Table}
use Rattle.table.specs.declared.Delivered.{Delivered}
use Rattle.table.specs.Table.{delivered_number, table_deliver}
use Rattle.script.specs.Answers.{answer_line}
use Rattle.buffer.specs.Wrote.{Wrote}
use Rattle.script.specs.Line.{WroteLine}
use Rattle.script.specs.Bench.{Stepped, answer_step, refuse_step, on_content, play_of, run_of}
use Rattle.script.specs.Line.{Played}
use Rattle.script.specs.declared.rehearsal.Step.{Step}
use Rattle.script.proofs.Deliveries.{deliver_kept}
use Rattle.buffer.proofs.Appends.{Going, going_on, going_done}

-- ---- one line

pub send_done : (d : Delivered) (b : List ℕ) (o : Outcome Delivered (List ℕ)) (at p : ℕ) (l m : List ℕ) → Lending delivered_number d b o
    → WroteLine (answer_line d.answer b) at l p m → Played (answer_step o) at l (record { table = d.table; at = p }) m
send_done d b o at p l m e f =
    record { table = ap (λ (x : Delivered). x.table) e.answer; line = rw (← e.answer, ← e.leaves) f }

module _ (t : Table) (l b : List ℕ) (found : Option ℕ) (e : Lending parsed_number found b (read_bytes (bytes_in l) (replicate 20 0))) (at : ℕ) (o m : List ℕ) (r : Step) where
  pub play_bad : found ≡ None → Played (refuse_step t) at o r m → Played (play_of t l) at o r m
  unfolding play_of
  play_bad g f = go (bytes_in l) (sym g ∙ e.answer)
    where
      go : (q : Content) → None ≡ (read_bytes q (replicate 20 0)).answer → Played (on_content t q) at o r m
      go malformed e = f
      go (bytes p) e = impossible cc

  pub play_good : (n : ℕ) (d : List ℕ) → found ≡ Some n → d ≡ take n b → Played (answer_step (table_deliver t divisor_up d (replicate most_reply 0))) at o r m → Played (play_of t l) at o r m
  unfolding play_of
  play_good n d h g f = go (bytes_in l) (λ p q. (read_written l p q).small) (sym h ∙ e.answer) e.leaves
    where
      go : (q : Content) → ((p : List ℕ) → q ≡ bytes p → AllBytes p) → Some n ≡ (read_bytes q (replicate 20 0)).answer → b ≡ (read_bytes q (replicate 20 0)).left
          → Played (on_content t q) at o r m
      go malformed s i j = impossible cc
      go (bytes p) s i j =
          let en : n ≡ length p = cc in
          let ed : d ≡ take (length p) (over p (replicate 20 0)) = g ∙ rw (en, j) in
          rw (← deliver_kept t divisor_up p (replicate most_reply 0) (replicate 20 0) refl (byte_at p 2 (s p refl)), ← ed) f

-- ---- all lines: those that are left are still to be played

pub run_next : (left ls : List (List ℕ)) (l : List ℕ) → left ≡ l ∷ ls
    → (t : Table) (out after e o : List ℕ) (s : Step) (p : ℕ) → Played (play_of t l) p out s after → Going (run_of t left) p out e o
    → Going (run_of s.table ls) s.at after e o
unfolding run_of
run_next left ls l next t out after e o s p f g =
    rw f.table (going_on (subst (λ (x : List (List ℕ)). Going (run_of t x) p out e o) next g) f.line.wrote)

pub run_near : (s : Stepped) (r : Step) (out after : List ℕ) (left ls : List (List ℕ)) (l : List ℕ) (m p : ℕ) → Played s p out r after → left ≡ l ∷ ls
    → p + 64 * length left ≤ m → r.at + 64 * length ls ≤ m
run_near s r out after left ls l m p f next h = omega (arith, f.line.wrote.behind, f.line.near, ap (λ (x : List (List ℕ)). length x) next)

pub run_long : (s : Stepped) (r : Step) (out left : List ℕ) (p n : ℕ) → Played s p out r left → length out ≡ n → length left ≡ n
run_long s r out left p n f e = f.line.wrote.long ∙ e

pub run_done : (t : Table) (left : List (List ℕ)) (out e o : List ℕ) (p : ℕ) → left ≡ [] → Going (run_of t left) p out e o → Wrote e 0 o p out
unfolding run_of
run_done t left out e o p none g = going_done (run_of t left) (rw none) g
