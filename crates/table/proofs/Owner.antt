-- The first nodes of an array are lent and come back before those behind them.
use Rattle.std.proofs.Common.{◌≡◌, ℕ, ◌<◌, min, Bool, true, false, ltb, List, ◌++◌, length, take, drop, Result, refl, sym, ap, ◌∙◌, arith, ltb-true, ltb-false}
use lib.ListN.{drop_of_length-le}
use lib.Seq.{take_all}
use Rattle.wire.specs.Promise.{Outcome, Lending, lent}
use Rattle.wire.specs.declared.refusal.Refusal.{Refusal}
use Rattle.node.specs.declared.state.Node.{Node}
use Rattle.survey.specs.declared.decision.Delivery.{Delivery}
use Rattle.survey.specs.Delivery.{deliver_of, delivery_number}
use Rattle.table.specs.declared.Table.{Table}
use Rattle.table.specs.declared.Delivered.{Delivered}
use Rattle.table.specs.Table.{table_room, delivered_number, table_deliver}

-- a count over the records counts no more of them
by_room : {A : Type 0} (n count : ℕ) → n ≡ min count table_room → (n ≡ table_room → table_room < count → A) → (n ≡ count → A) → A
by_room {A} n count e over within = at (ltb table_room count) refl
  where
    at : (b : Bool) → ltb table_room count ≡ b → A
    at true h = let g = ltb-true table_room count h in over (omega (arith, e, g)) g
    at false h = let g = ltb-false table_room count h in within (omega (arith, e, g))

same_taken : (l : List Node) (n count : ℕ) → length l ≡ table_room → n ≡ min count table_room → take n l ≡ take count l
same_taken l n count long e = by_room n count e (λ is more. take_all n l (omega arith) ∙ sym (take_all count l (omega arith))) (λ is. ap (λ (k : ℕ). take k l) is)

same_left : (l : List Node) (n count : ℕ) → length l ≡ table_room → n ≡ min count table_room → drop n l ≡ drop count l
same_left l n count long e =
    by_room n count e (λ is more. drop_of_length-le l {i = n} (omega arith) ∙ sym (drop_of_length-le l {i = count} (omega arith))) (λ is. ap (λ (k : ℕ). drop k l) is)

-- the nodes as the delivery left them, before those behind them
pub owned : (t : Table) (n at : ℕ) (p out : List ℕ) (r : Result Delivery Refusal) (zs : List Node) (ws : List ℕ) → length t.nodes ≡ table_room → n ≡ min t.count table_room
    → Lending delivery_number r (record { nodes = zs; reply = ws }) (deliver_of (take n t.nodes) at p out)
    → Lending delivered_number (record { answer = r; table = record { nodes = zs ++ drop n t.nodes; count = t.count } }) ws (table_deliver t at p out)
unfolding table_deliver
owned t n at p out r zs ws long e given =
    lent ((λ i. record { answer = record { answer = given.answer i; table = record { nodes = (given.leaves i).nodes ++ drop n t.nodes; count = t.count } }; left = (given.leaves i).reply })
    ∙ (λ i. glued (same_taken t.nodes n t.count long e i) (same_left t.nodes n t.count long e i)))
  where
    glued : List Node → List Node → Outcome Delivered (List ℕ)
    glued fs rs = record { answer = record { answer = (deliver_of fs at p out).answer; table = record { nodes = (deliver_of fs at p out).left.nodes ++ rs; count = t.count } }; left = (deliver_of fs at p out).left.reply }
