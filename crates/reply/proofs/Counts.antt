-- How many bytes the items are that a mask asks for.
use Rattle.std.proofs.Common.{◌≡◌, ℕ, suc, ◌+◌, ◌≤◌, Bool, true, false, List, [], ◌∷◌, length, sym, refl, ap, ◌∙◌, arith, length-append}
use Rattle.wire.specs.declared.kind.Kind.{Kind}
use Rattle.wire.specs.declared.kind.Kind.TheVariants.{Gate, Drive}
use Rattle.status.specs.Status.{counts, T}
use Rattle.status.proofs.Laws.{eight_counts}
use Rattle.node.specs.declared.state.Shown.{Shown}
use Rattle.mask.specs.Mask.{bit, asked_count, count_from, size_of}
use Rattle.mask.proofs.Counts.{count_fits}
use Rattle.reply.specs.Items.{bytes_of, values_as, values_of, item_of, asked_from, reply_items}
use Rattle.reply.proofs.Bytes.{bytes_length}

asked_length : (t : Bool) (n w : ℕ) → length (item_of t (bytes_of n w)) ≡ asked_count t n
asked_length true n w = bytes_length n w
asked_length false n w = refl

-- the bytes of the items asked for number what the counts say
asked_count_lem : (k m : ℕ) (ns ws : List ℕ) → length ns ≡ length ws → length (asked_from k m ns ws) ≡ count_from k m ns
asked_count_lem k m [] ws e = refl
asked_count_lem k m (n ∷ ns) [] e = absurd (omega arith)
asked_count_lem k m (n ∷ ns) (w ∷ ws) e =
    length-append (item_of (bit k m) (bytes_of n w)) (asked_from (suc k) m ns ws)
    ∙ rw (asked_length (bit k m) n w, asked_count_lem (suc k) m ns ws (omega arith))

-- a value for each bit of the mask
pub eight_values : (k : Kind) (x : Shown) → length (values_as k x) ≡ 8
eight_values Gate x = refl
eight_values Drive x = refl

pub items_length : (m : ℕ) (x : Shown) → length (reply_items m x) ≡ count_from 0 m (counts x.kind)
unfolding reply_items
items_length m x = asked_count_lem 0 m (counts x.kind) (values_of x) (eight_counts x.kind ∙ sym (eight_values x.kind x))

-- status byte, items, sum
pub items_size : (m : ℕ) (x : Shown) → 2 + length (reply_items m x) ≡ size_of x.kind m
unfolding size_of
items_size m x = ap (λ (k : ℕ). 2 + k) (items_length m x)

pub items_fit : (m : ℕ) (x : Shown) → length (reply_items m x) ≤ T
items_fit m x = omega (arith, items_length m x, count_fits x.kind m)
