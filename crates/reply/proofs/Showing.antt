-- The items of a node by what it shows: their values, and the packet that grows by them.
use Rattle.std.proofs.Common.{◌≡◌, ℕ, ◌+◌, ◌<◌, List, length, sym, ap, ◌∙◌}
use Rattle.wire.specs.declared.kind.Kind.{Kind}
use Rattle.status.specs.Status.{counts}
use Rattle.status.proofs.Laws.{eight_counts}
use Rattle.node.specs.declared.state.Shown.{Shown}
use Rattle.reply.specs.Items.{values_as, values_of, asked_from, reply_items}
use Rattle.reply.specs.Grown.{Grown}
use Rattle.reply.proofs.Counts.{eight_values}
use Rattle.reply.proofs.Growing.{Passed, passed_none, passed_all}

-- ---- the values

-- in each arm the kind is known
pub told_values : (x : Shown) (k : Kind) (l : List ℕ) → x.kind ≡ k → l ≡ values_as k x → l ≡ values_of x
told_values x k l e p = p ∙ sym (ap (λ (j : Kind). values_as j x) e)

-- ---- the packet grows by the counts and values of its kind

module _ (m : ℕ) (x : Shown) (t w : List ℕ) (et : t ≡ counts x.kind) (ew : w ≡ values_of x) where
  asked_items : asked_from 0 m t w ≡ reply_items m x
  unfolding reply_items
  asked_items = ap (λ (l : List ℕ). asked_from 0 m l w) et ∙ ap (asked_from 0 m (counts x.kind)) ew

  -- from none of the items
  pub items_none : (end : ℕ) (o : List ℕ) → end + length (reply_items m x) < length o → Passed m t w end o o m end 0
  items_none end o h = passed_none m t w end o (rw et (eight_counts x.kind)) (rw ew (eight_values x.kind x)) (rw asked_items h)

  -- to all of them
  pub items_all : (end : ℕ) (o out : List ℕ) (bits at i : ℕ) → i ≡ 8 → Passed m t w end o out bits at i → Grown (reply_items m x) end o at out
  items_all end o out bits at i e p = rw asked_items at (passed_all m t w end o out bits at i e p)
