-- Demand 3's course of events, with document 02, requests 4, 6 and 7: whatever can come about under its premises.
use Rattle.std.specs.Prelude.{ℕ, ◌<◌, Bool, true, false, cond, List, [], ◌∷◌, map, ◌≡◌, length, get_or, set, take, Ok, Err, Some, None}
use Rattle.std.proofs.Math.Option.{Option}
use Rattle.wire.specs.declared.kind.Kind.{Kind}
use Rattle.wire.specs.declared.kind.Kind.TheVariants.{Gate}
use Rattle.wire.specs.declared.refusal.Refusal.{Refusal}
use Rattle.node.specs.declared.state.Bench.{Bench}
use Rattle.node.specs.declared.state.Node.{Node}
use Rattle.node.specs.Node.{power_up}
use Rattle.survey.specs.Chain.{blank_node}
use Rattle.session.specs.declared.Session.{Session}
use Rattle.session.specs.Session.{End}
use Rattle.start.specs.Start.{fresh_of, start_power_up}
use Rattle.calls.specs.declared.Call.{Call}
use Rattle.calls.specs.Calls.{call_perform, TypedCall}
use Rattle.line.specs.History.{Sending}
use Rattle.line.specs.History as history
use Rattle.line.specs.Call.{what_of, resets}
use Rattle.line.specs.Line.{Line, quiet, going, coming, lingering, Arrival, Arrives, Nothing, nodes_after, said_after, Returns, reported_of, answer_in}

-- `up`: the host was told of a power-up, and no Hard Reset was sent since; `past`: what was sent and answered since, the newest first
pub record World : Type 0 where
  pub host : Session
  pub nodes : List Node
  pub line : Line
  pub past : List history.Sent
  pub up : Bool

-- before any power-up
abbrev pub started : List Node → World
started ns = record { host = fresh_of; nodes = ns; line = quiet; past = []; up = false }

-- the host has another session
abbrev pub hosting : Session → World → World
hosting s w = record { host = s; nodes = w.nodes; line = w.line; past = w.past; up = w.up }

-- what a node of the chain is before it powers up: its kind, and the bench values that it has
pub record Device : Type 0 where
  pub kind : Kind
  pub bench : Bench

abbrev pub powered_up : Device → Node
powered_up d = power_up d.kind d.bench

-- "demand 3 takes the kinds told as the nodes' own"
abbrev pub Told : List Kind → List Device → Type 0
Told ks ds = (i : ℕ) → i < length ds → get_or ks i Gate ≡ get_or (map (λ (d : Device). d.kind) ds) i Gate

-- all nodes in power-up state; what was on the line comes to no node any more (Late says why this is asked)
abbrev pub powered : List Device → Session → World
powered ds s = record { host = s; nodes = map powered_up ds; line = quiet; past = []; up = true }

-- a call that sends puts the first n bytes of its buffer on the line; any other leaves the line as it is
abbrev pub call_ended : End → Call → ℕ → Session → List ℕ → World → World
call_ended (Ok (Some n)) c at s left w =
    record { host = s; nodes = w.nodes; line = going (what_of c (take n left)) at (take n left); past = w.past; up = cond (resets c) false w.up }
call_ended (Ok None) c at s left w = hosting s w
call_ended (Err why) c at s left w = hosting s w

-- a call was made, at this divisor and with this buffer lent
abbrev pub call_made : Call → ℕ → List ℕ → World → World
call_made c at out w =
    call_ended (call_perform c w.host at out).answer.end c at (call_perform c w.host at out).answer.session (call_perform c w.host at out).left w

-- the packet came as q, and r comes back
abbrev pub delivered : Arrival → Sending → ℕ → Option (List ℕ) → World → World
delivered q what at r w = record { host = w.host; nodes = nodes_after q w.nodes; line = coming what at r; past = w.past; up = w.up }

-- what came was reported
abbrev pub reported : Sending → ℕ → Option (List ℕ) → World → World
reported what at r w = record {
  host = (reported_of w.host r).session;
  nodes = w.nodes;
  line = quiet;
  past = record { what = what; at = at; answer = answer_in r } ∷ w.past;
  up = w.up;
}

-- silence was reported, while the packet is still on its way
abbrev pub hurried : Sending → ℕ → List ℕ → Option (List ℕ) → World → World
hurried what at p r w = record {
  host = (reported_of w.host r).session;
  nodes = w.nodes;
  line = lingering what at p;
  past = record { what = what; at = at; answer = answer_in r } ∷ w.past;
  up = w.up;
}

-- and then it came as q; what the nodes say comes too late
abbrev pub delayed : Arrival → World → World
delayed q w = record { host = w.host; nodes = nodes_after q w.nodes; line = quiet; past = w.past; up = w.up }

-- a node with other bench values, and another position
abbrev pub benched : Bench → ℕ → Node → Node
benched b p n = record { settings = n.settings; bench = b; captured = n.captured; position = p; addressed = n.addressed; kind = n.kind }

pub data Comes : World → Type 0 where
  -- before any power-up there may be any nodes
  start : (ns : List Node) → Comes (started ns)
  -- "when the host is told of a power-up of n nodes, the chain has n nodes and all power up then", at any time
  power : {w : World} → Comes w → (ds : List Device) (ks : List Kind) → Told ks ds → (start_power_up w.host (length ds) ks).end ≡ Ok None
      → Comes (powered ds (start_power_up w.host (length ds) ks).session)
  -- a power-up that is refused
  unpowered : {w : World} → Comes w → (n : ℕ) (ks : List Kind) (why : Refusal) → (start_power_up w.host n ks).end ≡ Err why
      → Comes (hosting (start_power_up w.host n ks).session w)
  -- a call, accepted or refused, at any divisor, with any buffer, at any time
  call : {w : World} → Comes w → (c : Call) → TypedCall c → (at : ℕ) (out : List ℕ) → Comes (call_made c at out w)
  -- its packet comes to all nodes, to some or to none, and what those say comes back
  deliver : {w : World} → Comes w → (what : Sending) (at : ℕ) (p : List ℕ) → w.line ≡ going what at p
      → (q : Arrival) (r : Option (List ℕ)) → Arrives at p q → Returns (said_after q w.nodes) r → Comes (delivered q what at r w)
  -- what came is reported as it came
  report : {w : World} → Comes w → (what : Sending) (at : ℕ) (r : Option (List ℕ)) → w.line ≡ coming what at r → Comes (reported what at r w)
  -- silence is reported before the packet has come to the nodes; it comes before the next command is sent, or not at all
  hurry : {w : World} → Comes w → (what : Sending) (at : ℕ) (p : List ℕ) → w.line ≡ going what at p → (r : Option (List ℕ)) → Nothing r → Comes (hurried what at p r w)
  delay : {w : World} → Comes w → (what : Sending) (at : ℕ) (p : List ℕ) → w.line ≡ lingering what at p → (q : Arrival) → Arrives at p q → Comes (delayed q w)
  -- a report that is refused: "a reply nobody waits for"
  stray : {w : World} → Comes w → (r : Option (List ℕ)) (why : Refusal) → (reported_of w.host r).end ≡ Err why → Comes (hosting (reported_of w.host r).session w)
  -- the bench sets the values of a node, at any time
  bench : {w : World} → Comes w → (i : ℕ) (b : Bench) (p : ℕ)
      → Comes (record { host = w.host; nodes = set w.nodes i (benched b p (get_or w.nodes i blank_node)); line = w.line; past = w.past; up = w.up })
