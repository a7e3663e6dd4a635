-- A packet line's scratch holds enough of the packet.
use Prim.Native.Nat.{ℕ, ◌≤◌, ◌<◌}
use mathlib.Core.Bool.{Bool, true, false}
use mathlib.Core.List.{List, ◌++◌, append-nil}
use mathlib.Core.Path.{◌≡◌, refl, ap, ◌∙◌}
use native.Mathlib.Omega.{arith}
use lib.Dec.{ltb}
use lib.ListN.{length, get_or, take, drop, drop_of_length-le}
use lib.Seq.{length-take-le, take_at, take_all}
use borrow.Author.Tests.{ltb-true, ltb-false}
use Rattle.survey.proofs.Lengths.{deliver_long}
use Rattle.table.specs.declared.Table.{Table}
use Rattle.table.specs.Table.{nodes_of, kept_by, table_deliver}
use Rattle.hexadecimal.specs.Hex.{over}

table_long : (t : Table) (at : ℕ) (p out : List ℕ) → 20 ≤ length p → get_or p 2 0 < 256 → table_deliver t at (take 20 p) out ≡ table_deliver t at p out
unfolding table_deliver
table_long t at p out h b = ap (kept_by t) (deliver_long (nodes_of t) at p out h b)

-- so what 20 bytes of scratch hold of a packet is enough
pub deliver_kept : (t : Table) (at : ℕ) (p out l : List ℕ) → length l ≡ 20 → get_or p 2 0 < 256 → table_deliver t at (take (length p) (over p l)) out ≡ table_deliver t at p out
unfolding over
deliver_kept t at p out l n k = by_test (ltb 20 (length p)) refl
  where
    short : length p ≤ 20 → take (length p) (take (length l) p ++ drop (length p) l) ≡ p
    short h = rw (n, take_all 20 p h) (take_at p (drop (length p) l) (length p) refl)

    long : 20 < length p → take (length p) (take (length l) p ++ drop (length p) l) ≡ take 20 p
    long h =
        let m : length (take 20 p) ≡ 20 = length-take-le 20 p (omega arith) in
        rw (n, drop_of_length-le l {i = length p} (omega arith), append-nil (take 20 p)) (take_all (length p) (take 20 p) (omega arith))

    by_test : (c : Bool) → ltb 20 (length p) ≡ c → table_deliver t at (take (length p) (take (length l) p ++ drop (length p) l)) out ≡ table_deliver t at p out
    by_test true e =
        let h : 20 < length p = ltb-true 20 (length p) e in
        ap (λ (q : List ℕ). table_deliver t at q out) (long h) ∙ table_long t at p out (omega arith) k
    by_test false e = ap (λ (q : List ℕ). table_deliver t at q out) (short (ltb-false 20 (length p) e))
