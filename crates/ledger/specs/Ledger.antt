-- Document 01, "The host session", with document 02, requests 4, 6 and 7: the record of all nodes. Node k has the entry of index k - 1; entries past n stay as they are.
use Rattle.std.specs.Prelude.{ℕ, zero, suc, ◌-◌, Bool, true, false, cond, not, ◌&&◌, ◌||◌, List, [], ◌∷◌, map, ltb, eqb, get_or, replicate}
use Rattle.wire.specs.Numbers.{most_nodes}
use Rattle.wire.specs.declared.address.Group.{Group}
use Rattle.wire.specs.declared.address.Address.{Address}
use Rattle.wire.specs.declared.address.Address.TheVariants as address
use Rattle.wire.specs.declared.kind.Kind.{Kind}
use Rattle.wire.specs.declared.kind.Kind.TheVariants.{Gate}
use Rattle.command.specs.declared.Place.{Place}
use Rattle.command.specs.declared.Command.{Command}
use Rattle.command.specs.declared.Command.TheVariants.{HardReset}
use Rattle.command.specs.Owner.{has}
use Rattle.command.specs.Divisors.{is_listed}
use Rattle.status.specs.declared.Answer.{Answer}
use Rattle.node.specs.Setting.{place, zeroed}
use Rattle.entry.specs.declared.Entry.{Entry}
use Rattle.entry.specs.declared.Reach.{Reach}
use Rattle.entry.specs.declared.Reach.TheVariants.{Misses, Hits, May}
use Rattle.entry.specs.Entry.{flags, knows, shows, entry_power_up, note_of, doubt_of}

-- what an index past the record's end reads as
abbrev pub blank_entry : Entry
blank_entry = record { settings = zeroed; known = flags (λ s. false); kind = Gate }

-- what no kind was told of: gates as power-up has them
unfoldable pub all_gates : List Entry
all_gates = replicate most_nodes (entry_power_up Gate)

-- how many entries n counts
unfoldable pub ledger_least : ℕ → ℕ
ledger_least n = cond (ltb most_nodes n) most_nodes n

-- "Who may be written: .. for a group, nodes known to be in it and every node whose place is in doubt"; document 02, request 4:
-- "A good clear reply to a group command confirms only the leader, if known; every other node that may be written goes into doubt"
abbrev pub group_reach : Group → Bool → Place → Reach
group_reach g known p = cond known (cond (eqb p.group.0 g.0) (cond p.leader Hits May) Misses) May

-- "node k for an individual command"; by the node's place, and whether it is known
abbrev pub reach_by : Address → ℕ → Bool → Place → Reach
reach_by (address.Individual i) k known p = cond (eqb i.0 k) Hits Misses
reach_by (address.Group g) k known p = group_reach g known p

-- by its entry, which is asked for no more than that
abbrev pub reach_of : Address → ℕ → Entry → Reach
reach_of to k e = reach_by to k (knows e place) (shows e place)

-- the first n entries, of nodes j, j + 1, .., by a rule; the rest stays
unfoldable pub each_from : (ℕ → Entry → Entry) → ℕ → ℕ → List Entry → List Entry
each_from f j zero es = es
each_from f j (suc n) [] = []
each_from f j (suc n) (e ∷ es) = f j e ∷ each_from f (suc j) n es

-- "makes all settings known as power-up has them"; document 02, request 6: "Each node gets a kind, told to the host at power-up", the first of them node 1's
unfoldable pub telling : List Kind → ℕ → Entry → Entry
telling ks k e = entry_power_up (get_or ks (k - 1) Gate)

unfoldable pub ledger_power_up : ℕ → List Kind → List Entry
ledger_power_up n ks = each_from (telling ks) 1 (ledger_least n) all_gates

-- what the entry of node k becomes when a command to an address was answered
abbrev pub settling : Answer → Address → Command → ℕ → Entry → Entry
settling a to c k e = note_of a (reach_of to k e) c e

-- and the record
unfoldable pub settle_of : Answer → Address → Command → ℕ → List Entry → List Entry
settle_of a to c n es = each_from (settling a to c) 1 (ledger_least n) es

-- "Hard Reset .. puts all settings in doubt"
unfoldable pub forget_of : List Entry → List Entry
forget_of es = map (doubt_of HardReset) es

-- node j, another than k, "leads that group or has its place in doubt"
abbrev pub is_rival : ℕ → Group → ℕ → Entry → Bool
is_rival k g j e = not (eqb j k) && (not (knows e place) || ((shows e place).leader && eqb (shows e place).group.0 g.0))

-- one of the first n entries, of nodes j, j + 1, .., passes a test
unfoldable pub any_from : (ℕ → Entry → Bool) → ℕ → ℕ → List Entry → Bool
any_from f j zero es = false
any_from f j (suc n) [] = false
any_from f j (suc n) (e ∷ es) = f j e || any_from f (suc j) n es

unfoldable pub is_led : ℕ → Group → ℕ → List Entry → Bool
is_led k g n es = any_from (is_rival k g) 1 (ledger_least n) es

-- "a node it may reach (node k; for a group, known members and nodes with place in doubt)"
abbrev pub may_reach : Reach → Bool
may_reach Misses = false
may_reach Hits = true
may_reach May = true

-- 17: "a command that the kind of a node it may reach lacks"
abbrev pub does_lack : Address → Command → ℕ → Entry → Bool
does_lack to c k e = may_reach (reach_of to k e) && not (has e.kind c)

unfoldable pub is_lacked : Address → Command → ℕ → List Entry → Bool
is_lacked to c n es = any_from (does_lack to c) 1 (ledger_least n) es

-- 18: the manual of a node's kind doesn't list the divisor
abbrev pub lacks_divisor : ℕ → Entry → Bool
lacks_divisor d e = not (is_listed e.kind d)

unfoldable pub is_unlisted : ℕ → ℕ → List Entry → Bool
is_unlisted d n es = any_from (λ k. lacks_divisor d) 1 (ledger_least n) es

-- "Only divisors listed in the manual of every kind on the chain"; where there are no nodes, in the LS-773's, which lists all that the other does
unfoldable pub is_off_list : ℕ → ℕ → List Entry → Bool
is_off_list d n es = cond (is_listed Gate d) (is_unlisted d n es) true

-- 19: "Set Baud Rate to a group that a known member leads, or while any place is in doubt": a rival of nobody, since no node is 0
abbrev pub is_answerable : Group → ℕ → List Entry → Bool
is_answerable g n es = is_led 0 g n es
