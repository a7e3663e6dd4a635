-- Demand 3's line, with document 02, requests 4 and 7: what comes to the nodes, what they make of it, what comes back. Nobody else sends on it.
use Rattle.std.specs.Prelude.{ℕ, zero, suc, Bool, true, cond, List, [], ◌∷◌, Result, Err, Ok}
use Rattle.wire.specs.declared.refusal.Refusal.{Refusal}
use Rattle.packet.specs.declared.Framed.{Framed}
use Rattle.std.proofs.Math.Option.{Option, none, some}
use Rattle.wire.specs.declared.address.Address.{Address}
use Rattle.buffer.specs.Change.{Altered, Damaged}
use Rattle.status.specs.Status.{judge_of}
use Rattle.status.specs.declared.Answer.{Answer}
use Rattle.status.specs.declared.Answer.TheVariants.{Silent}
use Rattle.node.specs.declared.state.Node.{Node}
use Rattle.message.specs.declared.Messages.{Messages}
use Rattle.message.specs.Message.{is_answered}
use Rattle.survey.specs.One.{messages_as}
use Rattle.survey.specs.Chain.{after, repliers_from, search_of, Said, silence, reply, collided, said_by}
use Rattle.survey.specs.Delivery.{frame_alone}
use Rattle.session.specs.declared.Session.{Session}
use Rattle.session.specs.declared.Step.{Step}
use Rattle.reports.specs.Report.{finish_of, report_of}
use Rattle.line.specs.History.{Sending}

-- what is on the line: nothing; a packet, sent at a divisor, on its way to the nodes; what came of it on its way back, some bytes or nothing;
-- a packet still on its way when its exchange was closed as silence
pub data Line : Type 0 where
  quiet : Line
  going : Sending → ℕ → List ℕ → Line
  coming : Sending → ℕ → Option (List ℕ) → Line
  lingering : Sending → ℕ → List ℕ → Line

-- the packet p is on its way to the nodes, whether its exchange is still open or not
pub data OnItsWay (what : Sending) (at : ℕ) (p : List ℕ) : Line → Type 0 where
  awaited : OnItsWay what at p (going what at p)
  overdue : OnItsWay what at p (lingering what at p)

-- what comes to the nodes of a packet: bytes at a divisor, and the nodes, by index, that get them
pub record Arrival : Type 0 where
  pub at : ℕ
  pub bytes : List ℕ
  pub gets : ℕ → Bool

-- they come to all nodes, as on the bench
abbrev pub to_all : ℕ → List ℕ → Arrival
to_all at q = record { at = at; bytes = q; gets = λ i. true }

-- "each separately hears a whole command or misses it; a changed command is still changed alike for those that hear it":
-- one byte other than header and command byte is changed; "not at all": nobody gets it
pub data Arrives (at : ℕ) (p : List ℕ) : Arrival → Type 0 where
  whole : {gets : ℕ → Bool} → Arrives at p (record { at = at; bytes = p; gets = gets })
  damaged : {q : List ℕ} {gets : ℕ → Bool} → Damaged p q → Arrives at p (record { at = at; bytes = q; gets = gets })

-- the nodes after the bytes q, as the chain delivers them
abbrev pub taken_by : ℕ → Result Framed Refusal → List ℕ → List Node → List Node
taken_by at (Ok g) q ns = after at g.address (messages_as g.address g.command q) ns
taken_by at (Err why) q ns = ns

-- a node that gets them is as in the second list, one that misses them as in the first
abbrev pub parted : (ℕ → Bool) → List Node → List Node → List Node
parted gets [] ms = []
parted gets (n ∷ ns) [] = n ∷ ns
parted gets (n ∷ ns) (m ∷ ms) = cond (gets zero) m n ∷ parted (λ i. gets (suc i)) ns ms

-- the nodes after an arrival
abbrev pub nodes_after : Arrival → List Node → List Node
nodes_after q ns = parted q.gets ns (taken_by q.at (frame_alone q.bytes) q.bytes ns)

-- of the nodes that would reply, by index, those that get the packet
abbrev pub getting : (ℕ → Bool) → List ℕ → List ℕ
getting gets [] = []
getting gets (i ∷ is) = cond (gets i) (i ∷ getting gets is) (getting gets is)

-- what is said: as on the chain, by these alone
abbrev pub said_among : (ℕ → Bool) → ℕ → Address → Messages → List Node → Said
said_among gets at to m ns = cond (is_answered m.gate) (said_by m ns (search_of (getting gets (repliers_from at to 0 true ns)))) silence

-- by whoever gets the bytes q
abbrev pub spoken_by : (ℕ → Bool) → ℕ → Result Framed Refusal → List ℕ → List Node → Said
spoken_by gets at (Ok g) q ns = said_among gets at g.address (messages_as g.address g.command q) ns
spoken_by gets at (Err why) q ns = silence

-- what the nodes say to an arrival
abbrev pub said_after : Arrival → List Node → Said
said_after q ns = spoken_by q.gets q.at (frame_alone q.bytes) q.bytes ns

-- nothing came: silence is reported, or no bytes
pub data Nothing : Option (List ℕ) → Type 0 where
  absent : Nothing none
  empty : Nothing (some [])

-- "A reply comes whole, with one byte changed, or not at all"; of several at once anything may come
pub data Returns : Said → Option (List ℕ) → Type 0 where
  quietly : {t : Option (List ℕ)} → Nothing t → Returns silence t
  whole : {r : List ℕ} → Returns (reply r) (some r)
  altered : {r t : List ℕ} → Altered r t → Returns (reply r) (some t)
  lost : {r : List ℕ} {t : Option (List ℕ)} → Nothing t → Returns (reply r) t
  mixed : {t : Option (List ℕ)} → Returns collided t

-- it "is reported as it came": by the bytes received, or as silence
abbrev pub reported_of : Session → Option (List ℕ) → Step
reported_of s none = finish_of s Silent
reported_of s (some bytes) = report_of s bytes

-- and what it was answered
abbrev pub answer_in : Option (List ℕ) → Answer
answer_in none = Silent
answer_in (some bytes) = judge_of bytes
