-- What the exits of the functions need, in the form in which the code gives it.
use Prim.Native.Nat.{ℕ, ◌-◌}
use mathlib.Core.Bool.{Bool, true, false, not}
use mathlib.Core.List.{List}
use mathlib.Core.Path.{◌≡◌, ap, ◌∙◌}
use native.Mathlib.Nat.{sub-zero}
use lib.ListN.{take, drop}
use borrow.Author.Tests.{not-true, not-false}
use Rattle.wire.specs.Promise.{Lending}
use Rattle.fields.specs.declared.answer.Answer.{Answer}
use Rattle.fields.specs.Answer.{fields_nothing, answer_put, answer_put_all, malformed_of}
use Rattle.fields.specs.Field.{fields_byte}
use Rattle.fields.specs.Lending.{most_room, filled_of, room_of, is_lending}
use Rattle.layout.specs.Nodes.{are_nodes, nodes_length, read_nodes, put_nodes}
use Rattle.node.specs.declared.state.Node.{Node}
use Rattle.survey.specs.Delivery.{delivery_number}
use Rattle.table.specs.declared.Delivered.{Delivered}
use Rattle.table.specs.Table.{delivered_number, table_deliver}
use Rattle.trychain.specs.Delivering.{reply_length, put_delivered, put_outcome, deliver_to, trychain_deliver}

-- part by part
pub delivered_put : (d : Delivered) (s : List ℕ) (n k l : ℕ) (a b c e r : Answer) → a ≡ fields_nothing → k ≡ delivery_number d.answer → b ≡ answer_put a k
    → l ≡ reply_length d.answer → c ≡ answer_put b l → e ≡ answer_put_all c s → r ≡ put_nodes e d.table.nodes n → r ≡ put_delivered d s n
unfolding put_delivered
delivered_put d s n k l a b c e r p q t u v w x = rw (x, w, v, u, t, q, p)

pub delivered_to_lem : (records packet buffer left : List ℕ) (at n l : ℕ) (ns : List Node) (d : Delivered) (r : Answer) → ns ≡ read_nodes records → l ≡ nodes_length records n
    → packet ≡ drop l records → Lending delivered_number d left (table_deliver (record { nodes = ns; count = n }) at packet buffer) → r ≡ put_delivered d left n
    → r ≡ deliver_to at records n buffer
unfolding deliver_to
delivered_to_lem records packet buffer left at n l ns d r p q s k e =
    e ∙ ap (λ (d : Delivered). put_delivered d left n) k.answer ∙ ap (λ (left : List ℕ). put_delivered (table_deliver (record { nodes = ns; count = n }) at packet buffer).answer left n) k.leaves
    ∙ ap (λ (packet : List ℕ). put_outcome (table_deliver (record { nodes = ns; count = n }) at packet buffer) n) (s ∙ ap (λ (l : ℕ). drop l records) q)
    ∙ ap (λ (ns : List Node). put_outcome (table_deliver (record { nodes = ns; count = n }) at (drop (nodes_length records n) records) buffer) n) p

-- a line that is not of its form, and one that is
pub not_lending : (args : List ℕ) (t : Bool) (r : Answer) → t ≡ is_lending args 3 most_room → not t ≡ true → r ≡ malformed_of → r ≡ trychain_deliver args
unfolding trychain_deliver
not_lending args t r e h f = rw (f, ← e, not-true t h)

module _ (args records : List ℕ) (n : ℕ) (t u : Bool) (r : Answer) (p : t ≡ is_lending args 3 most_room) (h : not t ≡ false) (m : n ≡ fields_byte args 2) (e : records ≡ drop 3 args)
    (q : u ≡ are_nodes records n) where
  pub no_nodes : not u ≡ true → r ≡ malformed_of → r ≡ trychain_deliver args
  unfolding trychain_deliver
  no_nodes k f = rw (f, ← p, ← e, ← m, ← q, not-false t h, not-true u k)

  pub all_there : not u ≡ false → r ≡ deliver_to (fields_byte args 1) records n (take (room_of args most_room) filled_of) → r ≡ trychain_deliver args
  unfolding trychain_deliver
  all_there k f = rw (f, ← p, ← e, ← m, ← q, not-false t h, not-false u k)

-- the divisor, and the part of the buffer that the line lends
pub lent_part : (args records b : List ℕ) (at n k : ℕ) (r : Answer) → b ≡ filled_of → k ≡ room_of args most_room → at ≡ fields_byte args 1
    → r ≡ deliver_to at records n (take (k - 0) (drop 0 b)) → r ≡ deliver_to (fields_byte args 1) records n (take (room_of args most_room) filled_of)
lent_part args records b at n k r p q f e =
    e ∙ ap (λ (k : ℕ). deliver_to at records n (take k b)) (sub-zero k ∙ q) ∙ ap (λ (b : List ℕ). deliver_to at records n (take (room_of args most_room) b)) p
    ∙ ap (λ (at : ℕ). deliver_to at records n (take (room_of args most_room) filled_of)) f
