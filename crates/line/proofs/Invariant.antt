-- What holds of session and nodes whenever no exchange is open, and what an exchange is to the nodes.
use Prim.Native.Nat.{ℕ, suc, ◌+◌, ◌≤◌, ◌<◌}
use mathlib.Core.Bool.{Bool, true, false, cond, ◌&&◌}
use mathlib.Core.List.{List}
use mathlib.Core.Logic.{◌⊎◌}
use mathlib.Core.Path.{◌≡◌, refl}
use lib.Dec.{eqb}
use lib.ListN.{length, get_or}
use Rattle.wire.specs.declared.address.Address.{Address}
use Rattle.command.specs.declared.Command.{Command}
use Rattle.command.specs.Ranges.{place_fits}
use Rattle.command.specs.Role.{role_of}
use Rattle.status.specs.declared.Answer.{Answer}
use Rattle.status.specs.declared.Answer.TheVariants.{Clear, Marked}
use Rattle.node.specs.declared.state.Settings.{Settings}
use Rattle.node.specs.declared.state.Node.{Node}
use Rattle.node.specs.Setting.{place}
use Rattle.node.specs.Effect.{settings_after}
use Rattle.node.specs.Node.{addressed_after}
use Rattle.survey.specs.One.{is_meant}
use Rattle.survey.specs.Chain.{blank_node, hears_at, replies_at}
use Rattle.entry.specs.declared.Entry.{Entry}
use Rattle.entry.specs.Entry.{knows}
use Rattle.session.specs.declared.Session.{Session}
use Rattle.line.proofs.Closing.{entry_at}
use Rattle.line.proofs.Sound.{Sound}
use Rattle.session.specs.Session.{given_place}

-- the node of index i, node i + 1
abbrev pub at : List Node → ℕ → Node
at ns i = get_or ns i blank_node

-- a node that the walk has passed, and one that it has not come to
abbrev pub Placed : ℕ → Settings → Bool → Type 0
Placed k x addressed = (addressed ≡ true) × (x.place.address.0 ≡ k)

abbrev pub Unplaced : Settings → Bool → Type 0
Unplaced x addressed = (addressed ≡ false) × (x.place.address.0 ≡ 0)

-- the node that the walk is at: not come to, or, only where its place is in doubt, given its address
abbrev pub Edge : Entry → Settings → Bool → ℕ → Type 0
Edge e x addressed k = Unplaced x addressed ⊎ ((knows e place ≡ false) × (x.place ≡ given_place k) × (addressed ≡ true))

-- the same of the node of index i
abbrev pub PlacedAt : List Node → ℕ → Type 0
PlacedAt ns i = Placed (suc i) (at ns i).settings (at ns i).addressed

abbrev pub UnplacedAt : List Node → ℕ → Type 0
UnplacedAt ns i = Unplaced (at ns i).settings (at ns i).addressed

abbrev pub EdgeAt : Entry → List Node → ℕ → Type 0
EdgeAt e ns i = Edge e (at ns i).settings (at ns i).addressed (i + 1)

-- it really leads group g
abbrev pub leads : ℕ → Settings → Bool
leads g x = x.place.leader && eqb g x.place.group.0

-- of the first n nodes at most one leads a group
abbrev pub Alone : ℕ → List Node → Type 0
Alone n ns = (g i j : ℕ) → i < n → j < n → leads g (at ns i).settings ≡ true → leads g (at ns j).settings ≡ true → i ≡ j

pub record Invariant (h : Session) (ns : List Node) : Type 0 where
  pub begun : h.started ≡ true
  pub long : length ns ≡ h.n
  pub some : 1 ≤ h.n
  pub few : h.n ≤ 31
  pub full : length h.entries ≡ 31
  pub walked : h.walk ≤ h.n
  -- what is known is held
  pub held : (i : ℕ) → i < h.n → Sound (entry_at h i) (at ns i).settings
  -- where the walk is
  pub front : (i : ℕ) → i < h.walk → PlacedAt ns i
  pub back : (i : ℕ) → h.walk < i → i < h.n → UnplacedAt ns i
  pub edge : h.walk < h.n → EdgeAt (entry_at h h.walk) ns h.walk
  pub alone : Alone h.n ns
  -- every place is of its range
  pub fit : (i : ℕ) → i < h.n → place_fits (at ns i).settings.place ≡ true
  -- the kinds told are the nodes' own
  pub kinds : (i : ℕ) → i < h.n → (entry_at h i).kind ≡ (at ns i).kind

-- the node of index i acts on a command sent at divisor v to this address, if it comes to it whole
abbrev pub acts : ℕ → Address → List Node → ℕ → Bool
acts v to ns i = hears_at v ns i && is_meant to (at ns i).settings.place

-- of two neighbours that are not addressed the second doesn't hear
pub deaf : (v : ℕ) (ns : List Node) (i : ℕ) → (at ns i).addressed ≡ false → (at ns (suc i)).addressed ≡ false → hears_at v ns (suc i) ≡ false
deaf v ns i u w = rw (u, w) refl

-- the node of index i replies to this address, and acted on the command
pub record Answered (v : ℕ) (called : Address) (ns : List Node) (did : ℕ → Bool) : Type 0 where
  pub index : ℕ
  pub inside : index < length ns
  pub replies : replies_at v called ns index ≡ true
  pub acted : did index ≡ true

-- what the line and the nodes make of a command, from its sending to the report
pub record Exchanged (v : ℕ) (called : Address) (c : Command) (ns ms : List Node) (a : Answer) : Type 0 where
  -- the command came whole to the node of index i, which acted on it
  pub did : ℕ → Bool
  pub acting : (i : ℕ) → did i ≡ true → acts v called ns i ≡ true
  pub long : length ms ≡ length ns
  pub settings : (i : ℕ) → i < length ns → (at ms i).settings ≡ cond (did i) (settings_after c (at ns i).settings) (at ns i).settings
  pub addressed : (i : ℕ) → i < length ns → (at ms i).addressed ≡ cond (did i) (addressed_after (role_of c) (at ns i).addressed) (at ns i).addressed
  pub kind : (i : ℕ) → i < length ns → (at ms i).kind ≡ (at ns i).kind
  -- what the answer tells
  pub marked : a ≡ Marked → (i : ℕ) → did i ≡ false
  pub clear : a ≡ Clear → Answered v called ns did
