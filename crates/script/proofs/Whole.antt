-- The whole text: the count, then the lines.
use Prim.Native.Nat.{ℕ, suc, ◌+◌, ◌≤◌, ◌<◌}
use Rattle.std.specs.Prelude.{Ok, Err, Option, Some, None, ℕ}
use mathlib.Core.Bool.{Bool, true, false}
use mathlib.Core.List.{List, [], ◌∷◌, ◌++◌}
use mathlib.Core.Path.{◌≡◌, refl, sym, ap, ◌∙◌}
use native.Mathlib.Omega.{arith}
use native.Mathlib.Numerals.{add-one}
use lib.Dec.{ltb}
use lib.ListN.{length, drop, length-drop}
use borrow.Author.Tests.{lt-ltb, le-ltb, ltb-true, ltb-false}
use Rattle.wire.specs.Promise.{Promise, Lending}
use Rattle.wire.specs.Numbers.{most_nodes, number_by}
use Rattle.buffer.specs.Buffer.{written}
use Rattle.wire.specs.declared.refusal.Refusal.TheVariants.{Room}
use Rattle.buffer.proofs.Writing.{sets_start, no_room, has_room_lem}
use Rattle.text.specs.Lines.{first_line, lines_of}
use Rattle.text.specs.Digits.{read_decimal, decimal_number}
use Rattle.text.proofs.Parts.{lines_step}
use Rattle.table.specs.declared.Table.{Table}
use Rattle.buffer.specs.Wrote.{Wrote}
use Rattle.script.specs.Line.{WroteLine}
use Rattle.script.specs.Bench.{start_of, run_of, wrong, run_with, on_decimal, rehearse_of}
use Rattle.script.proofs.Bound.{most, bench_short}

-- ---- by the count

module _ (n : ℕ) (ls : List (List ℕ)) (out left : List ℕ) (r : ℕ) where
  pub count_low : n < 1 → WroteLine wrong 0 out r left → Wrote (run_with n ls) 0 out r left
  unfolding run_with
  count_low h f = rw (lt-ltb n 1 h) f.wrote

  pub count_high : 1 ≤ n → most_nodes < n → WroteLine wrong 0 out r left → Wrote (run_with n ls) 0 out r left
  unfolding run_with
  count_high h k f = rw (le-ltb n 1 h, lt-ltb most_nodes n k) f.wrote

  pub count_runs : (t : Table) → 1 ≤ n → n ≤ most_nodes → t ≡ start_of n → Wrote (run_of t ls) 0 out r left → Wrote (run_with n ls) 0 out r left
  unfolding run_with
  count_runs t h k e f = rw (le-ltb n 1 h, le-ltb most_nodes n k, ← e) f

-- ---- by the first line

pub bench_long : (s out left : List ℕ) (r : ℕ) → 65536 < length s → WroteLine wrong 0 out r left → Wrote (rehearse_of s) 0 out r left
unfolding rehearse_of
bench_long s out left r h f = rw (lt-ltb 65536 (length s) h) f.wrote

bench_lines : (s : List ℕ) → length s ≤ 65536 → rehearse_of s ≡ on_decimal (read_decimal (first_line s)) (lines_of (drop (suc (length (first_line s))) s))
unfolding rehearse_of read_decimal
bench_lines [] h = refl
bench_lines (x ∷ s) h = rw (le-ltb 65536 (length (x ∷ s)) h, lines_step (x ∷ s) (omega arith))

module _ (s l out left : List ℕ) (q : Option ℕ) (r : ℕ) (h : length s ≤ 65536) (el : l ≡ first_line s) (eq : Promise decimal_number q (read_decimal l)) where
  pub bench_wrong : q ≡ None → WroteLine wrong 0 out r left → Wrote (rehearse_of s) 0 out r left
  bench_wrong e f = rw (bench_lines s h, ← el, ← eq.answer, e) f.wrote

  pub bench_runs : (n : ℕ) (d : List ℕ) → q ≡ Some n → d ≡ drop (length l + 1) s → Wrote (run_with n (lines_of d)) 0 out r left → Wrote (rehearse_of s) 0 out r left
  bench_runs n d e ed f =
      let k : drop (suc (length l)) s ≡ d = sym (ed ∙ ap (λ (i : ℕ). drop i s) (add-one (length l))) in
      rw (bench_lines s h, ← el, ← eq.answer, e, k) f

pub rest_short : (s d : List ℕ) (i n : ℕ) → d ≡ drop i s → length s ≤ n → length d ≤ n
rest_short s d i n e h = rw e (omega (arith, length-drop i s))

-- ---- written if it has room

pub any_has_room : (s : List ℕ) (room : ℕ) → most ≤ room → false ≡ ltb room (length (rehearse_of s))
any_has_room s room h = sym (le-ltb room (length (rehearse_of s)) (omega (arith, bench_short s)))

pub found_room : (t z k : List ℕ) (n room : ℕ) → Wrote t 0 z n k → ltb room n ≡ ltb room (length t)
found_room t z k n room f =
    let e : n ≡ length t = omega (arith, f.behind) in
    ap (ltb room) e

module _ (t out : List ℕ) (lacks : Bool) (e : lacks ≡ ltb (length out) (length t)) where
  pub rehearse_short : lacks ≡ true → Lending number_by (Err Room) out (written t out)
  rehearse_short b = no_room t out (ltb-true (length out) (length t) (sym e ∙ b))

  pub rehearse_done : (left : List ℕ) (m : ℕ) → lacks ≡ false → Wrote t 0 out m left → Lending number_by (Ok m) left (written t out)
  rehearse_done left m b g =
      let h : length t ≤ length out = ltb-false (length out) (length t) (sym e ∙ b) in
      let em : length t ≡ m = omega (arith, g.behind) in
      has_room_lem t out m left em (omega arith) (g.bytes (omega arith) ∙ sets_start out t h ∙ ap (λ (i : ℕ). t ++ drop i out) em)
