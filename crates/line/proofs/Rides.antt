-- The courses of a carousel, step by step: node 1 is a gate, node 2 a drive.
use Prim.Native.Nat.{ℕ, zero, suc}
use mathlib.Core.Bool.{true}
use mathlib.Core.List.{List, [], ◌∷◌}
use mathlib.Core.Path.{refl}
use native.Mathlib.Omega.{arith}
use Rattle.wire.specs.declared.kind.Kind.{Kind}
use Rattle.wire.specs.declared.kind.Kind.TheVariants.{Gate, Drive}
use Rattle.buffer.specs.Sum.{total, ends_in_sum}
use Rattle.buffer.specs.Buffer.{written}
use Rattle.packet.specs.Packet.{data_part, frame_of, is_intact}
use Rattle.command.specs.declared.Command.TheVariants.{SetAddress, LoadTrajectory, StartMotion}
use Rattle.codec.specs.Reading.{shared_rows, gate_rows, drive_rows, motion_of, codec_read}
use Rattle.command.specs.Divisors.{is_listed}
use Rattle.codec.specs.Build.{load_data, build_for, codec_build}
use Rattle.status.specs.Status.{counts, judge_of}
use Rattle.node.specs.declared.state.Node.{Node}
use Rattle.node.specs.Node.{act_as}
use Rattle.reply.specs.Items.{reply_items}
use Rattle.reply.specs.Reply.{reply_of}
use Rattle.survey.specs.One.{does_act, does_reply, turned}
use Rattle.survey.specs.Chain.{zeros, after}
use Rattle.survey.specs.Delivery.{frame_alone}
use Rattle.node.specs.Effect.{divisor_up}
use Rattle.entry.specs.declared.Entry.{Entry}
use Rattle.entry.specs.Entry.{entry_power_up, confirm_of, doubt_of}
use Rattle.ledger.specs.Ledger.{all_gates, telling, ledger_power_up, ledger_least, each_from, settle_of, any_from, is_lacked, is_unlisted, is_off_list}
use Rattle.session.specs.declared.Exchange.{Exchange}
use Rattle.session.specs.declared.Exchange.TheVariants.{Idle, Waiting}
use Rattle.session.specs.declared.Session.{Session}
use Rattle.session.specs.Session.{is_valid, is_closed, is_ask_due, node_at, given_place}
use Rattle.start.specs.Start.{start_power_up}
use Rattle.sending.specs.Sending.{is_waiting, test_of, open_exchange, transmit_of}
use Rattle.walk.specs.Walk.{next_check, next_of}
use Rattle.host.specs.Calls.{order_check, order_of}
use Rattle.reports.specs.Report.{is_giving, is_asking, noted_of, conclude_of, finish_of, report_of}
use Rattle.calls.specs.declared.Call.TheVariants.{Next, Order}
use Rattle.examples.specs.Example.{addressed, pair}
use Rattle.line.specs.History.{gives, sends}
use Rattle.line.specs.Line.{quiet}
use Rattle.line.specs.World.{Device, powered_up, Told, Comes, start, power}
use Rattle.line.specs.Courses.{walked, turn, load_lost, motion_started, load_started}
use Rattle.line.proofs.Rounds.{gate_up, rest, idle, up, world_at, Round, round, replied, unheard, given, placed}

-- a drive with bench values 0, and its entry
abbrev carousel : Device
carousel = record { kind = Drive; bench = zeros }

abbrev drive_up : Entry
drive_up = entry_power_up Drive

abbrev kinds : List Kind
kinds = Gate ∷ Drive ∷ []

told : Told kinds (idle ∷ carousel ∷ [])
told zero l = refl
told (suc zero) l = refl
told (suc (suc i)) l = absurd (omega arith)

powers : Comes (world_at (pair 0 Idle gate_up drive_up rest) (up ∷ powered_up carousel ∷ []) quiet [])
unfolding start_power_up ledger_power_up all_gates telling ledger_least each_from rest
powers = power (start []) (idle ∷ carousel ∷ []) kinds told refl

-- node 2 with its address, and its entry
abbrev driven : Node
driven = act_as Drive (SetAddress (given_place 2)) (powered_up carousel)

abbrev driven_entry : Entry
driven_entry = confirm_of (SetAddress (given_place 2)) drive_up

next_1 : Round Next (gives 1) (given 1) (λ i. true) (pair 0 Idle gate_up drive_up rest) (pair 0 (Waiting divisor_up (node_at 1) (SetAddress (given_place 1))) gate_up drive_up rest)
    (up ∷ powered_up carousel ∷ []) (placed 1 0 ∷ powered_up carousel ∷ [])
unfolding next_of next_check any_from ledger_least is_listed is_unlisted is_off_list test_of is_closed is_valid is_waiting is_ask_due transmit_of open_exchange codec_build build_for written total
    frame_of frame_alone data_part is_intact ends_in_sum codec_read shared_rows gate_rows drive_rows after turned does_act does_reply reply_of reply_items counts
next_1 = record { typed = tt; sends = λ past. refl; nodes = refl; says = refl }

next_2 : Round Next (gives 2) (given 2) (λ i. true) (pair 1 Idle (addressed 1) drive_up rest) (pair 1 (Waiting divisor_up (node_at 2) (SetAddress (given_place 2))) (addressed 1) drive_up rest)
    (placed 1 0 ∷ powered_up carousel ∷ []) (placed 1 0 ∷ driven ∷ [])
unfolding next_of next_check any_from ledger_least is_listed is_unlisted is_off_list test_of is_closed is_valid is_waiting is_ask_due transmit_of open_exchange codec_build build_for written total
    frame_of frame_alone data_part is_intact ends_in_sum codec_read shared_rows gate_rows drive_rows after turned does_act does_reply reply_of reply_items counts
next_2 = record { typed = tt; sends = λ past. refl; nodes = refl; says = refl }

walks : Comes (world_at (pair 2 Idle (addressed 1) driven_entry rest) (placed 1 0 ∷ driven ∷ []) quiet walked)
unfolding report_of finish_of is_closed is_valid noted_of conclude_of is_giving is_asking settle_of each_from ledger_least judge_of ends_in_sum total
walks = round (round powers next_1 (replied refl)) next_2 (replied refl)

-- the packets: AA 02 54 11 00 28 00 00 8F, AA 02 05 07, AA 02 54 91 00 28 00 00 0F
abbrev loads : ℕ → ℕ → List ℕ
loads control sum = 0xAA ∷ 0x02 ∷ 0x54 ∷ control ∷ 0x00 ∷ 0x28 ∷ 0x00 ∷ 0x00 ∷ sum ∷ []

abbrev starts : List ℕ
starts = 0xAA ∷ 0x02 ∷ 0x05 ∷ 0x07 ∷ []

abbrev session : Exchange → Entry → Session
session x e = pair 2 x (addressed 1) e rest

-- node 2 with a load that waits, and then in force; its entries: the load in doubt, in force in doubt, and known
abbrev loaded : Node
loaded = act_as Drive (LoadTrajectory (turn 0x11)) driven

abbrev lost_entry : Entry
lost_entry = doubt_of (LoadTrajectory (turn 0x11)) driven_entry

abbrev started_entry : Entry
started_entry = confirm_of StartMotion lost_entry

load_waits : Round (Order (node_at 2) (LoadTrajectory (turn 0x11))) (sends (node_at 2) (LoadTrajectory (turn 0x11))) (loads 0x11 0x8F) (λ i. true)
    (session Idle driven_entry) (session (Waiting divisor_up (node_at 2) (LoadTrajectory (turn 0x11))) driven_entry) (placed 1 0 ∷ driven ∷ []) (placed 1 0 ∷ loaded ∷ [])
unfolding order_of order_check is_lacked any_from ledger_least is_listed is_unlisted is_off_list test_of is_closed is_valid is_waiting transmit_of open_exchange codec_build build_for load_data written total
    frame_of frame_alone data_part is_intact ends_in_sum codec_read shared_rows gate_rows drive_rows motion_of after turned does_act does_reply reply_of reply_items counts
load_waits = record { typed = tt; sends = λ past. refl; nodes = refl; says = refl }

-- its reply is lost
pub load_unheard : Comes (world_at (session Idle lost_entry) (placed 1 0 ∷ loaded ∷ []) quiet load_lost)
unfolding finish_of is_closed is_valid noted_of conclude_of is_giving is_asking settle_of each_from ledger_least
load_unheard = round walks load_waits (unheard refl)

motion_starts : Round (Order (node_at 2) StartMotion) (sends (node_at 2) StartMotion) starts (λ i. true)
    (session Idle lost_entry) (session (Waiting divisor_up (node_at 2) StartMotion) lost_entry) (placed 1 0 ∷ loaded ∷ []) (placed 1 0 ∷ act_as Drive StartMotion loaded ∷ [])
unfolding order_of order_check is_lacked any_from ledger_least is_listed is_unlisted is_off_list test_of is_closed is_valid is_waiting transmit_of open_exchange codec_build build_for written total
    frame_of frame_alone data_part is_intact ends_in_sum codec_read shared_rows gate_rows drive_rows after turned does_act does_reply reply_of reply_items counts
motion_starts = record { typed = tt; sends = λ past. refl; nodes = refl; says = refl }

pub started_in_doubt : Comes (world_at (session Idle started_entry) (placed 1 0 ∷ act_as Drive StartMotion loaded ∷ []) quiet motion_started)
unfolding report_of finish_of is_closed is_valid noted_of conclude_of is_giving is_asking settle_of each_from ledger_least judge_of ends_in_sum total
started_in_doubt = round load_unheard motion_starts (replied refl)

load_starts : Round (Order (node_at 2) (LoadTrajectory (turn 0x91))) (sends (node_at 2) (LoadTrajectory (turn 0x91))) (loads 0x91 0x0F) (λ i. true)
    (session Idle started_entry) (session (Waiting divisor_up (node_at 2) (LoadTrajectory (turn 0x91))) started_entry)
    (placed 1 0 ∷ act_as Drive StartMotion loaded ∷ []) (placed 1 0 ∷ act_as Drive (LoadTrajectory (turn 0x91)) (act_as Drive StartMotion loaded) ∷ [])
unfolding order_of order_check is_lacked any_from ledger_least is_listed is_unlisted is_off_list test_of is_closed is_valid is_waiting transmit_of open_exchange codec_build build_for load_data written total
    frame_of frame_alone data_part is_intact ends_in_sum codec_read shared_rows gate_rows drive_rows motion_of after turned does_act does_reply reply_of reply_items counts
load_starts = record { typed = tt; sends = λ past. refl; nodes = refl; says = refl }

-- sent again, with the start bit, and replied to
pub load_known : Comes (world_at (session Idle (confirm_of (LoadTrajectory (turn 0x91)) started_entry))
    (placed 1 0 ∷ act_as Drive (LoadTrajectory (turn 0x91)) (act_as Drive StartMotion loaded) ∷ []) quiet load_started)
unfolding report_of finish_of is_closed is_valid noted_of conclude_of is_giving is_asking settle_of each_from ledger_least judge_of ends_in_sum total
load_known = round started_in_doubt load_starts (replied refl)
