-- Those that reply to an address: the indices that the search goes along rise, and each is that of a node that replies.
-- What is said of such a list holds of any part of it too, and so of a line on which some nodes miss the packet.
use Rattle.std.proofs.Common.{◌≡◌, ℕ, zero, suc, ◌+◌, ◌<◌, ◌≤◌, Bool, true, false, cond, List, [], ◌∷◌, length, get_or, refl, subst, zero-add, arith}
use Rattle.wire.specs.declared.address.Address.{Address}
use Rattle.wire.proofs.Impossible.{impossible}
use Rattle.node.specs.declared.state.Node.{Node}
use Rattle.message.specs.declared.Messages.{Messages}
use Rattle.survey.specs.declared.sets.Replier.TheVariants.{One}
use Rattle.survey.specs.One.{does_reply}
use Rattle.survey.specs.Chain.{repliers_from, search_of, reply, collided, reply_for, said_by, blank_node, near_at, replies_at}

-- what holds of each node and its `near`, behind the first node
pub behind : (P : ℕ → Bool → Node → Type 0) (near : Bool) (n : Node) (ns : List Node)
    → ((j : ℕ) → j < suc (length ns) → P j (near_at near (n ∷ ns) j) (get_or (n ∷ ns) j blank_node))
    → (j : ℕ) → j < length ns → P (suc j) (near_at n.addressed ns j) (get_or ns j blank_node)
behind P near n ns f zero b = f (suc zero) (omega arith)
behind P near n ns f (suc j) b = f (suc (suc j)) (omega arith)

-- indices that rise from `low` on, of each of which P holds
abbrev pub Rising : (ℕ → Type 0) → ℕ → List ℕ → Type 0
Rising P low [] = Unit {0}
Rising P low (m ∷ ms) = (low ≤ m) × P m × Rising P (suc m) ms

pub lower : (P : ℕ → Type 0) (low high : ℕ) (ms : List ℕ) → low ≤ high → Rising P high ms → Rising P low ms
lower P low high [] h u = tt
lower P low high (m ∷ ms) h u = (omega (arith, u.0), u.1, u.2)

rise_from : (P : ℕ → Type 0) (at : ℕ) (to : Address) (i : ℕ) (near : Bool) (l : List Node)
    → ((j : ℕ) → j < length l → does_reply at to (near_at near l j) (get_or l j blank_node) ≡ true → P (i + j)) → Rising P i (repliers_from at to i near l)
rise_from P at to i near [] f = tt
rise_from P at to i near (n ∷ ns) f =
    go (does_reply at to near n) refl
    (rise_from P at to (suc i) n.addressed ns (λ j b y. subst P (omega arith) (behind (λ j b m. does_reply at to b m ≡ true → P (i + j)) near n ns f j b y)))
  where
    go : (t : Bool) → does_reply at to near n ≡ t → Rising P (suc i) (repliers_from at to (suc i) n.addressed ns)
        → Rising P i (cond t (i ∷ repliers_from at to (suc i) n.addressed ns) (repliers_from at to (suc i) n.addressed ns))
    go true y rest = (omega arith, subst P (omega arith) (f 0 (omega arith) y), rest)
    go false y rest = lower P i (suc i) (repliers_from at to (suc i) n.addressed ns) (omega arith) rest

-- a node of the chain that hears and answers
abbrev pub Replies : ℕ → Address → List Node → ℕ → Type 0
Replies at to l m = (m < length l) × (replies_at at to l m ≡ true)

pub repliers_rise : (at : ℕ) (to : Address) (l : List Node) → Rising (Replies at to l) 0 (repliers_from at to 0 true l)
unfolding does_reply
repliers_rise at to l = rise_from (Replies at to l) at to 0 true l (λ j b y. rw (zero-add j) (b, y))

-- who is found, whose the one reply is, and of which two several are
pub found_is : (P : ℕ → Type 0) (ms : List ℕ) (m : ℕ) → Rising P 0 ms → search_of ms ≡ One m → P m
found_is P [] m u e = impossible cc
found_is P (i ∷ []) m u e = subst P (cc) u.1
found_is P (i ∷ j ∷ ms) m u e = impossible cc

pub record Speaks (P : ℕ → Type 0) (h : Messages) (l : List Node) (r : List ℕ) : Type 0 where
  pub at : ℕ
  pub is : P at
  pub bytes : r ≡ reply_for h (get_or l at blank_node)

pub one_speaks : (P : ℕ → Type 0) (h : Messages) (l : List Node) (ms r : List ℕ) → Rising P 0 ms → said_by h l (search_of ms) ≡ reply r → Speaks P h l r
one_speaks P h l [] r u e = impossible cc
one_speaks P h l (i ∷ []) r u e = record { at = i; is = u.1; bytes = cc e }
one_speaks P h l (i ∷ j ∷ ms) r u e = impossible cc

pub record Two (P : ℕ → Type 0) : Type 0 where
  pub first : ℕ
  pub second : ℕ
  pub apart : first < second
  pub one : P first
  pub two : P second

pub two_speak : (P : ℕ → Type 0) (h : Messages) (l : List Node) (ms : List ℕ) → Rising P 0 ms → said_by h l (search_of ms) ≡ collided → Two P
two_speak P h l [] u e = impossible cc
two_speak P h l (i ∷ []) u e = impossible cc
two_speak P h l (i ∷ j ∷ ms) u e = record { first = i; second = j; apart = u.2.0; one = u.1; two = u.2.1 }
