-- The courses of the walk and of a command to one node, step by step; and the packet that is on its way at a power-up.
use Prim.Native.Nat.{ℕ}
use mathlib.Core.Bool.{Bool, true, false, true≢false}
use mathlib.Core.List.{List, [], ◌∷◌}
use mathlib.Core.Path.{refl, ap, ◌∙◌}
use lib.ListN.{get_or}
use Rattle.buffer.specs.Sum.{total, ends_in_sum}
use Rattle.buffer.specs.Buffer.{written}
use Rattle.packet.specs.Packet.{data_part, frame_of, is_intact}
use Rattle.command.specs.declared.Place.{Place}
use Rattle.command.specs.declared.Command.TheVariants.{SetOutputs, Nop}
use Rattle.codec.specs.Reading.{shared_rows, gate_rows, drive_rows, motion_of, codec_read}
use Rattle.command.specs.Divisors.{is_listed}
use Rattle.codec.specs.Build.{build_for, codec_build}
use Rattle.status.specs.Status.{counts, judge_of}
use Rattle.node.specs.declared.state.Node.{Node}
use Rattle.node.specs.Setting.{Setting, get}
use Rattle.reply.specs.Items.{reply_items}
use Rattle.reply.specs.Reply.{reply_of}
use Rattle.survey.specs.One.{does_act, does_reply, turned}
use Rattle.survey.specs.Chain.{blank_node, after}
use Rattle.survey.specs.Delivery.{frame_alone}
use Rattle.node.specs.Effect.{divisor_up}
use Rattle.entry.specs.declared.Entry.{Entry}
use Rattle.entry.specs.Entry.{knows, shows}
use Rattle.ledger.specs.Ledger.{ledger_power_up, ledger_least, each_from, settle_of, is_lacked, any_from, all_gates, telling, is_unlisted, is_off_list}
use Rattle.session.specs.declared.Exchange.TheVariants.{Idle, Waiting}
use Rattle.session.specs.Session.{is_valid, is_closed, is_ask_due, entry_of, node_at, given_place}
use Rattle.start.specs.Start.{start_power_up}
use Rattle.sending.specs.Sending.{is_waiting, test_of, open_exchange, transmit_of}
use Rattle.walk.specs.Walk.{ask_check, ask_of}
use Rattle.host.specs.Calls.{order_check, order_of}
use Rattle.reports.specs.Report.{is_giving, is_asking, noted_of, conclude_of, finish_of, report_of}
use Rattle.calls.specs.declared.Call.TheVariants.{Next, Ask, Order}
use Rattle.examples.specs.Example.{buffer, known_but, entry_with, place_in_doubt, addressed, pair}
use Rattle.line.specs.History.{gives, asks, sends}
use Rattle.line.specs.Line.{quiet, going}
use Rattle.line.specs.World.{World, Comes, call}
use Rattle.line.specs.Demand3.{node_of}
use Rattle.line.specs.Courses.{Stands, Courses, unasked, asked, lost, again}
use Rattle.line.specs.Late.{Late}
use Rattle.line.proofs.Rounds.{rest, up, world_at, Round, round, replied, unheard, powers, placed, given, opened1, next_1, walks, gate_up, idle, gates, told}
use Rattle.line.proofs.Passes.{group_passed, by_itself, leader_unknown}
use Rattle.line.proofs.Paces.{both_paced, one_heard, both_heard, none_heard, found_again}
use Rattle.line.proofs.Rides.{load_unheard, started_in_doubt, load_known}

-- the packets: AA 01 0E 0F, AA 02 26 05 00 2D
abbrev nop1 : List ℕ
nop1 = 0xAA ∷ 0x01 ∷ 0x0E ∷ 0x0F ∷ []

abbrev set5 : List ℕ
set5 = 0xAA ∷ 0x02 ∷ 0x26 ∷ 0x05 ∷ 0x00 ∷ 0x2D ∷ []

-- the first "next": the reply is lost; "ask" is replied to
unanswered : Comes (world_at (pair 0 Idle place_in_doubt gate_up rest) (placed 1 0 ∷ up ∷ []) quiet unasked)
unfolding finish_of is_closed is_valid noted_of conclude_of is_giving is_asking settle_of each_from ledger_least
unanswered = round powers next_1 (unheard refl)

ask_1 : Round Ask (asks 1) nop1 (λ i. true) (pair 0 Idle place_in_doubt gate_up rest) (pair 0 (Waiting divisor_up (node_at 1) Nop) place_in_doubt gate_up rest)
    (placed 1 0 ∷ up ∷ []) (placed 1 0 ∷ up ∷ [])
unfolding ask_of ask_check any_from ledger_least is_listed is_unlisted is_off_list test_of is_closed is_valid is_waiting is_ask_due transmit_of open_exchange codec_build build_for written total
    frame_of frame_alone data_part is_intact ends_in_sum codec_read shared_rows gate_rows drive_rows motion_of after turned does_act does_reply reply_of reply_items counts
ask_1 = record { typed = tt; sends = λ past. refl; nodes = refl; says = refl }

answered : Comes (world_at (pair 1 Idle (addressed 1) gate_up rest) (placed 1 0 ∷ up ∷ []) quiet asked)
unfolding report_of finish_of is_closed is_valid noted_of conclude_of is_giving is_asking is_ask_due settle_of each_from ledger_least judge_of ends_in_sum total
answered = round unanswered ask_1 (replied refl)

-- Set Outputs 5 to node 2, whatever its outputs are, known or in doubt
abbrev second : Bool → Entry
second known = entry_with (given_place 2) 0 (known_but known true true)

set_outputs : (old : ℕ) (known : Bool) → Round (Order (node_at 2) (SetOutputs 5)) (sends (node_at 2) (SetOutputs 5)) set5 (λ i. true) (pair 2 Idle (addressed 1) (second known) rest)
    (pair 2 (Waiting divisor_up (node_at 2) (SetOutputs 5)) (addressed 1) (second known) rest) (placed 1 0 ∷ placed 2 old ∷ []) (placed 1 0 ∷ placed 2 5 ∷ [])
unfolding order_of order_check is_lacked any_from ledger_least is_listed is_unlisted is_off_list test_of is_closed is_valid is_waiting transmit_of open_exchange codec_build build_for written total
    frame_of frame_alone data_part is_intact ends_in_sum codec_read shared_rows gate_rows drive_rows motion_of after turned does_act does_reply reply_of reply_items counts
set_outputs old known = record { typed = tt; sends = λ past. refl; nodes = refl; says = refl }

-- the reply is lost
unsure : Comes (world_at (pair 2 Idle (addressed 1) (second false) rest) (placed 1 0 ∷ placed 2 5 ∷ []) quiet lost)
unfolding finish_of is_closed is_valid noted_of conclude_of is_giving is_asking settle_of each_from ledger_least
unsure = round walks (set_outputs 0 true) (unheard refl)

-- sent again, and replied to
sure : Comes (world_at (pair 2 Idle (addressed 1) (entry_with (given_place 2) 5 (known_but true true true)) rest) (placed 1 0 ∷ placed 2 5 ∷ []) quiet again)
unfolding report_of finish_of is_closed is_valid noted_of conclude_of is_giving is_asking settle_of each_from ledger_least judge_of ends_in_sum total
sure = round unsure (set_outputs 5 false) (replied refl)

-- the first "next" is on its way
sent : Comes (world_at opened1 (up ∷ up ∷ []) (going (gives 1) divisor_up (given 1)) [])
sent = rw (next_1.sends []) at (call powers Next tt divisor_up buffer)

pub late : Late
unfolding start_power_up ledger_power_up all_gates telling ledger_least each_from
late = record {
  world = _;
  comes = sent;
  packet = given 1;
  divisor = divisor_up;
  sent = refl;
  devices = idle ∷ idle ∷ [];
  kinds = gates;
  told = told;
  accepted = refl;
  known = refl;
  differs = λ e. true≢false (cc (ap (λ (p : Place). p.address.0) (e ∙ ap (λ (ns : List Node). (get_or ns 0 blank_node).settings.place) next_1.nodes)));
}

stands : {k : ℕ} {s : Setting} {w : World} → Stands k s (knows (entry_of w.host k) s) (shows (entry_of w.host k) s) (get (node_of w.nodes k).settings s) w
stands = record { knowing = refl; showing = refl; holding = refl }

pub courses : Courses
courses = record {
  addressing = record { world = _; comes = unanswered; up = refl; free = refl; history = refl; two = refl; ends = stands };
  addressed = record { world = _; comes = answered; up = refl; free = refl; history = refl; two = refl; ends = stands };
  doubt = record { world = _; comes = unsure; up = refl; free = refl; history = refl; two = refl; ends = stands };
  known = record { world = _; comes = sure; up = refl; free = refl; history = refl; two = refl; ends = stands };
  missing = record { world = _; comes = group_passed false; up = refl; free = refl; history = refl; two = refl; ends = (stands, stands) };
  following = record { world = _; comes = group_passed true; up = refl; free = refl; history = refl; two = refl; ends = (stands, stands) };
  alone = record { world = _; comes = by_itself; up = refl; free = refl; history = refl; two = refl; ends = stands };
  unknown = record { world = _; comes = leader_unknown; up = refl; free = refl; history = refl; two = refl; ends = stands };
  loading = record { world = _; comes = load_unheard; up = refl; free = refl; history = refl; two = refl; ends = stands };
  starting = record { world = _; comes = started_in_doubt; up = refl; free = refl; history = refl; two = refl; ends = stands };
  turning = record { world = _; comes = load_known; up = refl; free = refl; history = refl; two = refl; ends = (stands, stands) };
  pacing = record { world = _; comes = both_paced true; up = refl; free = refl; history = refl; two = refl; ends = (stands, stands) };
  hearing = record { world = _; comes = one_heard true; up = refl; free = refl; history = refl; two = refl; ends = (stands, stands) };
  quick = record { world = _; comes = both_heard; up = refl; free = refl; history = refl; two = refl; ends = (stands, stands) };
  behind = record { world = _; comes = both_paced false; up = refl; free = refl; history = refl; two = refl; ends = (stands, stands) };
  unheard = record { world = _; comes = none_heard; up = refl; free = refl; history = refl; two = refl; ends = (stands, stands) };
  found = record { world = _; comes = found_again; up = refl; free = refl; history = refl; two = refl; ends = (stands, stands) };
}
