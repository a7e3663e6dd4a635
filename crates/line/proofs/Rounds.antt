-- One exchange of a course of two nodes: the call, the packet as it comes to the nodes, the reply as it comes back, the report. And the walk, made of two.
use Prim.Native.Nat.{ℕ, zero, suc, ◌+◌}
use mathlib.Core.Bool.{Bool, true}
use mathlib.Core.List.{List, [], ◌∷◌}
use mathlib.Core.Option.{Option, none, some}
use mathlib.Core.Path.{◌≡◌, refl}
use native.Mathlib.Omega.{arith}
use lib.ListN.{replicate}
use Rattle.buffer.specs.Sum.{total, ends_in_sum}
use Rattle.buffer.specs.Buffer.{written}
use Rattle.packet.specs.Packet.{data_part, frame_of, is_intact}
use Rattle.wire.specs.declared.kind.Kind.{Kind}
use Rattle.wire.specs.declared.kind.Kind.TheVariants.{Gate}
use Rattle.command.specs.declared.Command.TheVariants.{SetAddress, SetOutputs}
use Rattle.codec.specs.Reading.{shared_rows, gate_rows, drive_rows, motion_of, codec_read}
use Rattle.command.specs.Divisors.{is_listed}
use Rattle.codec.specs.Build.{build_for, codec_build}
use Rattle.status.specs.Status.{counts, judge_of}
use Rattle.status.specs.declared.Answer.{Answer}
use Rattle.status.specs.declared.Answer.TheVariants.{Clear, Silent}
use Rattle.node.specs.declared.state.Node.{Node}
use Rattle.node.specs.Node.{act_as}
use Rattle.reply.specs.Items.{reply_items}
use Rattle.reply.specs.Reply.{reply_of}
use Rattle.survey.specs.One.{does_act, does_reply, turned}
use Rattle.survey.specs.Chain.{zeros, Said, silence, reply, after}
use Rattle.survey.specs.Delivery.{frame_alone}
use Rattle.node.specs.Effect.{divisor_up}
use Rattle.entry.specs.declared.Entry.{Entry}
use Rattle.entry.specs.Entry.{entry_power_up}
use Rattle.ledger.specs.Ledger.{all_gates, telling, ledger_power_up, ledger_least, each_from, settle_of, any_from, is_unlisted, is_off_list}
use Rattle.session.specs.declared.Exchange.TheVariants.{Idle, Waiting}
use Rattle.session.specs.declared.Session.{Session}
use Rattle.session.specs.Session.{is_valid, is_closed, is_ask_due, node_at, given_place}
use Rattle.start.specs.Start.{start_power_up}
use Rattle.sending.specs.Sending.{is_waiting, test_of, open_exchange, transmit_of}
use Rattle.walk.specs.Walk.{next_check, next_of}
use Rattle.reports.specs.Report.{is_giving, is_asking, noted_of, conclude_of, finish_of, report_of}
use Rattle.calls.specs.declared.Call.{Call}
use Rattle.calls.specs.declared.Call.TheVariants.{Next}
use Rattle.calls.specs.Calls.{TypedCall}
use Rattle.examples.specs.Example.{buffer, addressed, pair}
use Rattle.line.specs.History.{Sending, Sent, gives}
use Rattle.line.specs.Line.{Line, quiet, going, Returns, nodes_after, said_after, reported_of, answer_in}
use Rattle.line.specs.Line as line
use Rattle.line.specs.World.{World, Device, powered_up, Told, call_made, Comes, start, power, call, deliver, report}
use Rattle.line.specs.Courses.{walked}

-- a gate's entry at power-up, and the 29 past the second
abbrev pub gate_up : Entry
gate_up = entry_power_up Gate

unfoldable pub rest : List Entry
rest = replicate 29 gate_up

-- a gate with bench values 0
abbrev pub idle : Device
idle = record { kind = Gate; bench = zeros }

abbrev pub up : Node
up = powered_up idle

abbrev pub world_at : Session → List Node → Line → List Sent → World
world_at s ns l past = record { host = s; nodes = ns; line = l; past = past; up = true }

-- the reply of a node without status items
abbrev pub good : List ℕ
good = 0x00 ∷ 0x00 ∷ []

-- a call at divisor v that puts the packet p on the line, the nodes that get it, whole; what the nodes are then, and what they say
pub record Turn (k : Call) (what : Sending) (v : ℕ) (p : List ℕ) (gets : ℕ → Bool) (said : Said) (s opened : Session) (ns ms : List Node) : Type 0 where
  pub typed : TypedCall k
  pub sends : (past : List Sent) → call_made k v buffer (world_at s ns quiet past) ≡ world_at opened ns (going what v p) past
  pub nodes : nodes_after (record { at = v; bytes = p; gets = gets }) ns ≡ ms
  pub says : said_after (record { at = v; bytes = p; gets = gets }) ns ≡ said

-- one at power-up's divisor, which a node replies to
abbrev pub Round : Call → Sending → List ℕ → (ℕ → Bool) → Session → Session → List Node → List Node → Type 0
Round k what p gets s opened ns ms = Turn k what divisor_up p gets (reply good) s opened ns ms

pub record Reported (said : Said) (opened : Session) (r : Option (List ℕ)) (a : Answer) (t : Session) : Type 0 where
  pub comes : Returns said r
  pub session : (reported_of opened r).session ≡ t
  pub answer : answer_in r ≡ a

pub round : {k : Call} {what : Sending} {v : ℕ} {p : List ℕ} {gets : ℕ → Bool} {said : Said} {s opened t : Session} {ns ms : List Node} {r : Option (List ℕ)} {a : Answer} {past : List Sent}
    → Comes (world_at s ns quiet past) → Turn k what v p gets said s opened ns ms → Reported said opened r a t
    → Comes (world_at t ms quiet (record { what = what; at = v; answer = a } ∷ past))
round {k} {what} {v} {p} {gets} {r = r} {past = past} c x y =
    rw (← x.nodes, ← y.session, ← y.answer)
    (report (deliver (rw (x.sends past) at (call c k x.typed v buffer)) what v p refl (record { at = v; bytes = p; gets = gets }) r line.Arrives.whole (rw x.says y.comes)) what v r refl)

-- what comes back: the reply, or nothing
judged_good : judge_of good ≡ Clear
unfolding judge_of ends_in_sum total
judged_good = refl

pub replied : {opened t : Session} → (reported_of opened (some good)).session ≡ t → Reported (reply good) opened (some good) Clear t
replied e = record { comes = line.Returns.whole; session = e; answer = judged_good }

pub unheard : {opened t : Session} → (reported_of opened none).session ≡ t → Reported (reply good) opened none Silent t
unheard e = record { comes = line.Returns.lost line.absent; session = e; answer = refl }

-- nobody replies
pub unanswered : {opened t : Session} → (reported_of opened none).session ≡ t → Reported silence opened none Silent t
unanswered e = record { comes = line.Returns.quietly line.absent; session = e; answer = refl }

-- two gates power up, and the host is told so
abbrev pub gates : List Kind
gates = Gate ∷ Gate ∷ []

pub told : Told gates (idle ∷ idle ∷ [])
told zero l = refl
told (suc zero) l = refl
told (suc (suc i)) l = absurd (omega arith)

pub powers : Comes (world_at (pair 0 Idle gate_up gate_up rest) (up ∷ up ∷ []) quiet [])
unfolding start_power_up ledger_power_up all_gates telling ledger_least each_from rest
powers = power (start []) (idle ∷ idle ∷ []) gates told refl

-- node k with its address and its outputs
abbrev pub placed : ℕ → ℕ → Node
placed k outputs = act_as Gate (SetOutputs outputs) (act_as Gate (SetAddress (given_place k)) up)

-- "next", for the first node and for the second: AA 00 21 01 FF 21, AA 00 21 02 FF 22
abbrev pub given : ℕ → List ℕ
given k = 0xAA ∷ 0x00 ∷ 0x21 ∷ k ∷ 0xFF ∷ (k + 0x20) ∷ []

abbrev pub opened1 : Session
opened1 = pair 0 (Waiting divisor_up (node_at 1) (SetAddress (given_place 1))) gate_up gate_up rest

pub next_1 : Round Next (gives 1) (given 1) (λ i. true) (pair 0 Idle gate_up gate_up rest) opened1 (up ∷ up ∷ []) (placed 1 0 ∷ up ∷ [])
unfolding next_of next_check any_from ledger_least is_listed is_unlisted is_off_list test_of is_closed is_valid is_waiting is_ask_due transmit_of open_exchange codec_build build_for written total
    frame_of frame_alone data_part is_intact ends_in_sum codec_read shared_rows gate_rows drive_rows motion_of after turned does_act does_reply reply_of reply_items counts
next_1 = record { typed = tt; sends = λ past. refl; nodes = refl; says = refl }

first : Comes (world_at (pair 1 Idle (addressed 1) gate_up rest) (placed 1 0 ∷ up ∷ []) quiet (record { what = gives 1; at = divisor_up; answer = Clear } ∷ []))
unfolding report_of finish_of is_closed is_valid noted_of conclude_of is_giving is_asking settle_of each_from ledger_least judge_of ends_in_sum total
first = round powers next_1 (replied refl)

next_2 : Round Next (gives 2) (given 2) (λ i. true) (pair 1 Idle (addressed 1) gate_up rest)
    (pair 1 (Waiting divisor_up (node_at 2) (SetAddress (given_place 2))) (addressed 1) gate_up rest) (placed 1 0 ∷ up ∷ []) (placed 1 0 ∷ placed 2 0 ∷ [])
unfolding next_of next_check any_from ledger_least is_listed is_unlisted is_off_list test_of is_closed is_valid is_waiting is_ask_due transmit_of open_exchange codec_build build_for written total
    frame_of frame_alone data_part is_intact ends_in_sum codec_read shared_rows gate_rows drive_rows motion_of after turned does_act does_reply reply_of reply_items counts
next_2 = record { typed = tt; sends = λ past. refl; nodes = refl; says = refl }

-- the walk, each step of it replied to
pub walks : Comes (world_at (pair 2 Idle (addressed 1) (addressed 2) rest) (placed 1 0 ∷ placed 2 0 ∷ []) quiet walked)
unfolding report_of finish_of is_closed is_valid noted_of conclude_of is_giving is_asking settle_of each_from ledger_least judge_of ends_in_sum total
walks = round first next_2 (replied refl)
