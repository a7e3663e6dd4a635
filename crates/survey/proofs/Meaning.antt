-- What a packet means at each index of the chain, for the layers above: who hears, what stands there afterwards, whose reply is said.
use Rattle.std.proofs.Common.{◌≡◌, ℕ, zero, suc, ◌+◌, ◌<◌, Bool, true, false, cond, ◌&&◌, List, [], ◌∷◌, length, get_or, refl, ap, le_of_suc-le-suc, not-suc-le-zero, add-zero, add-suc, suc-add, zero-add, arith}
use Rattle.wire.specs.declared.address.Address.{Address}
use Rattle.wire.specs.declared.kind.Kind.{Kind}
use Rattle.wire.specs.declared.kind.Kind.TheVariants as kind
use Rattle.wire.proofs.Choice.{same, chose_first}
use Rattle.wire.proofs.Impossible.{impossible}
use Rattle.node.specs.declared.state.Node.{Node}
use Rattle.message.specs.declared.Message.{Message}
use Rattle.message.specs.declared.Message.TheVariants.{Other, Spoilt}
use Rattle.message.specs.declared.Messages.{Messages}
use Rattle.message.specs.Message.{is_answered, message_to}
use Rattle.node.specs.Node.{take_of}
use Rattle.survey.specs.declared.sets.Replier.TheVariants.{None, One}
use Rattle.survey.specs.One.{does_hear, is_meant, does_act, does_reply, to_both, take_for, turned}
use Rattle.survey.specs.Chain.{turned_from, after, repliers_from, replier_in, silence, reply, reply_for, said, blank_node, near_at, hears_at, replies_at}
use Rattle.survey.proofs.Repliers.{behind, Replies, repliers_rise, found_is, Speaks, one_speaks}

-- ---- the nodes afterwards

length_from : (at : ℕ) (to : Address) (h : Messages) (near : Bool) (l : List Node) → length (turned_from at to h near l) ≡ length l
length_from at to h near [] = refl
length_from at to h near (n ∷ ns) = ap suc (length_from at to h n.addressed ns)

pub length_after : (at : ℕ) (to : Address) (h : Messages) (l : List Node) → length (after at to h l) ≡ length l
unfolding after
length_after at to h l = length_from at to h true l

turned_at : (at : ℕ) (to : Address) (h : Messages) (near : Bool) (l : List Node) (i : ℕ) → i < length l
    → get_or (turned_from at to h near l) i blank_node ≡ turned at to h (near_at near l i) (get_or l i blank_node)
turned_at at to h near [] i b = absurd (not-suc-le-zero b)
turned_at at to h near (n ∷ ns) zero b = refl
turned_at at to h near (n ∷ ns) (suc zero) b = turned_at at to h n.addressed ns zero (le_of_suc-le-suc b)
turned_at at to h near (n ∷ ns) (suc (suc i)) b = turned_at at to h n.addressed ns (suc i) (le_of_suc-le-suc b)

-- a node that hears and is meant has taken the packet; every other stands as it stood
pub after_at : (at : ℕ) (to : Address) (h : Messages) (l : List Node) (i : ℕ) → i < length l
    → get_or (after at to h l) i blank_node ≡ cond (hears_at at l i && is_meant to (get_or l i blank_node).settings.place) (take_for h (get_or l i blank_node)) (get_or l i blank_node)
unfolding after turned does_act
after_at at to h l i b = turned_at at to h true l i b

unmoved : (at : ℕ) (to : Address) (h : Messages) → ((n : Node) → take_for h n ≡ n) → (near : Bool) (l : List Node) → turned_from at to h near l ≡ l
unfolding turned does_act
unmoved at to h f near [] = refl
unmoved at to h f near (n ∷ ns) = rw (f n, same (does_hear at near n && is_meant to n.settings.place) n, unmoved at to h f n.addressed ns)

-- what is said alike to either kind
pub said_alike : (h : Message) (k : Kind) → message_to k (to_both h) ≡ h
said_alike h kind.Gate = refl
said_alike h kind.Drive = refl

-- a wrong sum, and another command, leave all nodes
pub spoilt_stays : (at : ℕ) (to : Address) (l : List Node) → after at to (to_both Spoilt) l ≡ l
unfolding after
spoilt_stays at to l = unmoved at to (to_both Spoilt) (λ n. ap (λ (h : Message). take_of h n) (said_alike Spoilt n.kind)) true l

pub other_stays : (at : ℕ) (to : Address) (l : List Node) → after at to (to_both Other) l ≡ l
unfolding after
other_stays at to l = unmoved at to (to_both Other) (λ n. ap (λ (h : Message). take_of h n) (said_alike Other n.kind)) true l

-- ---- what is said on the line

-- nobody replies
quiet_from : (at : ℕ) (to : Address) (i : ℕ) (near : Bool) (l : List Node)
    → ((j : ℕ) → j < length l → does_reply at to (near_at near l j) (get_or l j blank_node) ≡ false) → repliers_from at to i near l ≡ []
quiet_from at to i near [] f = refl
quiet_from at to i near (n ∷ ns) f =
    rw (f zero (omega arith)) (quiet_from at to (suc i) n.addressed ns (behind (λ j b m. does_reply at to b m ≡ false) near n ns f))

at_suc : (at : ℕ) (to : Address) (near : Bool) (n : Node) (ns : List Node) (j : ℕ)
    → does_reply at to (near_at near (n ∷ ns) (suc j)) (get_or (n ∷ ns) (suc j) blank_node) ≡ true → does_reply at to (near_at n.addressed ns j) (get_or ns j blank_node) ≡ true
at_suc at to near n ns zero y = y
at_suc at to near n ns (suc j) y = y

-- node j alone replies
one_from : (at : ℕ) (to : Address) (i : ℕ) (near : Bool) (l : List Node) (j : ℕ) → j < length l → does_reply at to (near_at near l j) (get_or l j blank_node) ≡ true
    → ((k : ℕ) → k < length l → (k ≡ j → ⊥) → does_reply at to (near_at near l k) (get_or l k blank_node) ≡ false) → repliers_from at to i near l ≡ (i + j) ∷ []
one_from at to i near [] j b y f = absurd (not-suc-le-zero b)
one_from at to i near (n ∷ ns) zero b y f =
    rw (y, quiet_from at to (suc i) n.addressed ns (λ k c. behind (λ k b m. (k ≡ 0 → ⊥) → does_reply at to b m ≡ false) near n ns f k c (λ e. omega arith)), add-zero i)
one_from at to i near (n ∷ ns) (suc j) b y f =
    rw (f zero (omega arith) (λ e. omega arith), add-suc i j, ← (suc-add i j))
    (one_from at to (suc i) n.addressed ns j (le_of_suc-le-suc b) (at_suc at to near n ns j y)
    (λ k c d. behind (λ k b m. (k ≡ suc j → ⊥) → does_reply at to b m ≡ false) near n ns f k c (λ e. d (omega arith))))

nothing : (t : Bool) → cond t silence silence ≡ silence
nothing true = refl
nothing false = refl

-- if nobody hears and answers, nothing is said; nor after an intact Hard Reset
pub said_none : (at : ℕ) (to : Address) (h : Messages) (l : List Node) → ((j : ℕ) → j < length l → replies_at at to l j ≡ false) → said at to h l ≡ silence
unfolding said replier_in does_reply
said_none at to h l f = rw (quiet_from at to 0 true l f) (nothing (is_answered h.gate))

pub said_reset : (at : ℕ) (to : Address) (h : Messages) (l : List Node) → is_answered h.gate ≡ false → said at to h l ≡ silence
unfolding said
said_reset at to h l n = rw n

-- if one node hears and answers, and no other, its reply is said
pub said_one : (at : ℕ) (to : Address) (h : Messages) (l : List Node) (j : ℕ) → is_answered h.gate ≡ true → j < length l → replies_at at to l j ≡ true
    → ((k : ℕ) → k < length l → (k ≡ j → ⊥) → replies_at at to l k ≡ false) → said at to h l ≡ reply (reply_for h (get_or l j blank_node))
unfolding said replier_in does_reply
said_one at to h l j a b y f = rw (a, one_from at to 0 true l j b y f, zero-add j)

-- who is found is a node of the chain
pub none_one : (m : ℕ) → None ≡ One m → ⊥
none_one m e = impossible cc

pub replier_below : (at : ℕ) (to : Address) (l : List Node) (i : ℕ) → replier_in at to l ≡ One i → i < length l
unfolding replier_in
replier_below at to l i e = (found_is (Replies at to l) (repliers_from at to 0 true l) i (repliers_rise at to l) e).0

-- the one reply is that of a node of the chain that hears and answers
pub said_says : (at : ℕ) (to : Address) (h : Messages) (l : List Node) (r : List ℕ) → said at to h l ≡ reply r → Speaks (Replies at to l) h l r
unfolding said replier_in
said_says at to h l r e =
    one_speaks (Replies at to l) h l (repliers_from at to 0 true l) r (repliers_rise at to l) (chose_first (is_answered h.gate) e (λ z. impossible cc)).1
