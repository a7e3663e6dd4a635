-- The courses of a group, step by step: node 1 leads it, node 2 is in it.
use Prim.Native.Nat.{ℕ, ◌+◌}
use mathlib.Core.Bool.{Bool, true, false, cond, ◌||◌}
use mathlib.Core.List.{List, [], ◌∷◌}
use mathlib.Core.Path.{refl}
use native.Mathlib.Omega.{arith}
use lib.Dec.{eqb}
use Rattle.buffer.specs.Sum.{total, ends_in_sum}
use Rattle.buffer.specs.Buffer.{written}
use Rattle.packet.specs.Packet.{data_part, frame_of, is_intact}
use Rattle.wire.specs.declared.kind.Kind.TheVariants.{Gate}
use Rattle.command.specs.declared.Command.TheVariants.{SetAddress, SynchOutput, SetOutputs, SetSynchOutput}
use Rattle.codec.specs.Reading.{shared_rows, gate_rows, drive_rows, motion_of, codec_read}
use Rattle.command.specs.Divisors.{is_listed}
use Rattle.codec.specs.Build.{build_for, codec_build}
use Rattle.status.specs.Status.{counts, judge_of}
use Rattle.status.specs.declared.Answer.TheVariants.{Silent}
use Rattle.node.specs.declared.state.Node.{Node}
use Rattle.node.specs.Node.{act_as}
use Rattle.reply.specs.Items.{reply_items}
use Rattle.reply.specs.Reply.{reply_of}
use Rattle.survey.specs.One.{does_act, does_reply, turned}
use Rattle.survey.specs.Chain.{after}
use Rattle.survey.specs.Delivery.{frame_alone}
use Rattle.node.specs.Effect.{divisor_up}
use Rattle.entry.specs.declared.Entry.{Entry}
use Rattle.entry.specs.Entry.{confirm_of, doubt_of}
use Rattle.ledger.specs.Ledger.{ledger_least, each_from, settle_of, any_from, is_led, is_lacked, is_unlisted, is_off_list}
use Rattle.session.specs.declared.Exchange.{Exchange}
use Rattle.session.specs.declared.Exchange.TheVariants.{Idle, Waiting}
use Rattle.session.specs.declared.Session.{Session}
use Rattle.session.specs.Session.{is_valid, is_closed, is_ask_due, node_at}
use Rattle.sending.specs.Sending.{is_waiting, test_of, open_exchange, transmit_of}
use Rattle.host.specs.Calls.{has_rival, order_check, regroup_check, order_of, regroup_of}
use Rattle.reports.specs.Report.{is_giving, is_asking, noted_of, conclude_of, finish_of, report_of}
use Rattle.calls.specs.declared.Call.TheVariants.{Order, Regroup}
use Rattle.examples.specs.Example.{addressed, pair}
use Rattle.line.specs.History.{sends}
use Rattle.line.specs.Line.{quiet}
use Rattle.line.specs.World.{Comes}
use Rattle.line.specs.Courses.{walked, group80, in_group, opened, armed, passed, handed, leader_in_doubt}
use Rattle.line.proofs.Rounds.{rest, world_at, Round, round, replied, unheard, placed, walks}

-- both nodes have their addresses; what waits, and the two entries
abbrev session : Exchange → Entry → Entry → Session
session x e f = pair 2 x e f rest

-- a node and its entry, with a place in the group, and with the set to hold too
abbrev grouped : ℕ → Bool → Node
grouped k leader = act_as Gate (SetAddress (in_group k leader)) (placed k 0)

abbrev grouped_entry : ℕ → Bool → Entry
grouped_entry k leader = confirm_of (SetAddress (in_group k leader)) (addressed k)

abbrev holding : ℕ → Bool → Node
holding k leader = act_as Gate (SetSynchOutput opened) (grouped k leader)

abbrev holding_entry : ℕ → Bool → Entry
holding_entry k leader = confirm_of (SetSynchOutput opened) (grouped_entry k leader)

-- the packets: AA 01 21 01 00 23, AA 02 21 02 80 A5; AA 01 47 05 00 00 00 4D, AA 02 47 05 00 00 00 4E; AA 80 05 85, AA 02 05 07, AA 80 26 05 00 AB
abbrev joins : ℕ → ℕ → List ℕ
joins k g = 0xAA ∷ k ∷ 0x21 ∷ k ∷ g ∷ (k + k + g + 0x21) ∷ []

abbrev holds : ℕ → List ℕ
holds k = 0xAA ∷ k ∷ 0x47 ∷ 0x05 ∷ 0x00 ∷ 0x00 ∷ 0x00 ∷ (k + 0x4C) ∷ []

abbrev synch : ℕ → List ℕ
synch to = 0xAA ∷ to ∷ 0x05 ∷ (to + 0x05) ∷ []

abbrev sets : List ℕ
sets = 0xAA ∷ 0x80 ∷ 0x26 ∷ 0x05 ∷ 0x00 ∷ 0xAB ∷ []

leads : Round (Regroup (record { 0 = 1 }) (record { 0 = 0x80 }) true) (sends (node_at 1) (SetAddress (in_group 1 true))) (joins 1 0x00) (λ i. true)
    (session Idle (addressed 1) (addressed 2)) (session (Waiting divisor_up (node_at 1) (SetAddress (in_group 1 true))) (addressed 1) (addressed 2))
    (placed 1 0 ∷ placed 2 0 ∷ []) (grouped 1 true ∷ placed 2 0 ∷ [])
unfolding regroup_of regroup_check has_rival is_led any_from ledger_least is_listed is_unlisted is_off_list test_of is_closed is_valid is_waiting is_ask_due transmit_of open_exchange codec_build build_for written total
    frame_of frame_alone data_part is_intact ends_in_sum codec_read shared_rows gate_rows drive_rows motion_of after turned does_act does_reply reply_of reply_items counts
leads = record { typed = omega arith; sends = λ past. refl; nodes = refl; says = refl }

follows : Round (Regroup (record { 0 = 2 }) (record { 0 = 0x80 }) false) (sends (node_at 2) (SetAddress (in_group 2 false))) (joins 2 0x80) (λ i. true)
    (session Idle (grouped_entry 1 true) (addressed 2)) (session (Waiting divisor_up (node_at 2) (SetAddress (in_group 2 false))) (grouped_entry 1 true) (addressed 2))
    (grouped 1 true ∷ placed 2 0 ∷ []) (grouped 1 true ∷ grouped 2 false ∷ [])
unfolding regroup_of regroup_check has_rival is_led any_from ledger_least is_listed is_unlisted is_off_list test_of is_closed is_valid is_waiting is_ask_due transmit_of open_exchange codec_build build_for written total
    frame_of frame_alone data_part is_intact ends_in_sum codec_read shared_rows gate_rows drive_rows motion_of after turned does_act does_reply reply_of reply_items counts
follows = record { typed = omega arith; sends = λ past. refl; nodes = refl; says = refl }

hold_1 : Round (Order (node_at 1) (SetSynchOutput opened)) (sends (node_at 1) (SetSynchOutput opened)) (holds 1) (λ i. true)
    (session Idle (grouped_entry 1 true) (grouped_entry 2 false)) (session (Waiting divisor_up (node_at 1) (SetSynchOutput opened)) (grouped_entry 1 true) (grouped_entry 2 false))
    (grouped 1 true ∷ grouped 2 false ∷ []) (holding 1 true ∷ grouped 2 false ∷ [])
unfolding order_of order_check is_lacked any_from ledger_least is_listed is_unlisted is_off_list test_of is_closed is_valid is_waiting transmit_of open_exchange codec_build build_for written total
    frame_of frame_alone data_part is_intact ends_in_sum codec_read shared_rows gate_rows drive_rows motion_of after turned does_act does_reply reply_of reply_items counts
hold_1 = record { typed = tt; sends = λ past. refl; nodes = refl; says = refl }

hold_2 : Round (Order (node_at 2) (SetSynchOutput opened)) (sends (node_at 2) (SetSynchOutput opened)) (holds 2) (λ i. true)
    (session Idle (holding_entry 1 true) (grouped_entry 2 false)) (session (Waiting divisor_up (node_at 2) (SetSynchOutput opened)) (holding_entry 1 true) (grouped_entry 2 false))
    (holding 1 true ∷ grouped 2 false ∷ []) (holding 1 true ∷ holding 2 false ∷ [])
unfolding order_of order_check is_lacked any_from ledger_least is_listed is_unlisted is_off_list test_of is_closed is_valid is_waiting transmit_of open_exchange codec_build build_for written total
    frame_of frame_alone data_part is_intact ends_in_sum codec_read shared_rows gate_rows drive_rows motion_of after turned does_act does_reply reply_of reply_items counts
hold_2 = record { typed = tt; sends = λ past. refl; nodes = refl; says = refl }

-- the group is made, and both hold their set
ready : Comes (world_at (session Idle (holding_entry 1 true) (holding_entry 2 false)) (holding 1 true ∷ holding 2 false ∷ []) quiet armed)
unfolding report_of finish_of is_closed is_valid noted_of conclude_of is_giving is_asking settle_of each_from ledger_least judge_of ends_in_sum total
ready = round (round (round (round walks leads (replied refl)) follows (replied refl)) hold_1 (replied refl)) hold_2 (replied refl)

-- Synch Output to the group: node 1 gets it and replies, whether node 2 does or not
module _ (got : Bool) where
  abbrev second : Node
  second = cond got (act_as Gate SynchOutput (holding 2 false)) (holding 2 false)

  pass : Round (Order group80 SynchOutput) (sends group80 SynchOutput) (synch 0x80) (λ i. eqb i 0 || got)
      (session Idle (holding_entry 1 true) (holding_entry 2 false)) (session (Waiting divisor_up group80 SynchOutput) (holding_entry 1 true) (holding_entry 2 false))
      (holding 1 true ∷ holding 2 false ∷ []) (act_as Gate SynchOutput (holding 1 true) ∷ second ∷ [])
  unfolding order_of order_check is_lacked any_from ledger_least is_listed is_unlisted is_off_list test_of is_closed is_valid is_waiting transmit_of open_exchange codec_build build_for written total
      frame_of frame_alone data_part is_intact ends_in_sum codec_read shared_rows gate_rows drive_rows motion_of after turned does_act does_reply reply_of reply_items counts
  pass = record { typed = omega arith; sends = λ past. refl; nodes = refl; says = refl }

  -- its clear reply confirms it at node 1, the leader, and puts node 2 in doubt
  pub group_passed : Comes (world_at (session Idle (confirm_of SynchOutput (holding_entry 1 true)) (doubt_of SynchOutput (holding_entry 2 false)))
      (act_as Gate SynchOutput (holding 1 true) ∷ second ∷ []) quiet passed)
  unfolding report_of finish_of is_closed is_valid noted_of conclude_of is_giving is_asking settle_of each_from ledger_least judge_of ends_in_sum total
  group_passed = round ready pass (replied refl)

-- the same to node 2 by itself, which had missed it
hand : Round (Order (node_at 2) SynchOutput) (sends (node_at 2) SynchOutput) (synch 0x02) (λ i. true)
    (session Idle (confirm_of SynchOutput (holding_entry 1 true)) (doubt_of SynchOutput (holding_entry 2 false)))
    (session (Waiting divisor_up (node_at 2) SynchOutput) (confirm_of SynchOutput (holding_entry 1 true)) (doubt_of SynchOutput (holding_entry 2 false)))
    (act_as Gate SynchOutput (holding 1 true) ∷ holding 2 false ∷ []) (act_as Gate SynchOutput (holding 1 true) ∷ act_as Gate SynchOutput (holding 2 false) ∷ [])
unfolding order_of order_check is_lacked any_from ledger_least is_listed is_unlisted is_off_list test_of is_closed is_valid is_waiting transmit_of open_exchange codec_build build_for written total
    frame_of frame_alone data_part is_intact ends_in_sum codec_read shared_rows gate_rows drive_rows motion_of after turned does_act does_reply reply_of reply_items counts
hand = record { typed = tt; sends = λ past. refl; nodes = refl; says = refl }

pub by_itself : Comes (world_at (session Idle (confirm_of SynchOutput (holding_entry 1 true)) (confirm_of SynchOutput (doubt_of SynchOutput (holding_entry 2 false))))
    (act_as Gate SynchOutput (holding 1 true) ∷ act_as Gate SynchOutput (holding 2 false) ∷ []) quiet handed)
unfolding report_of finish_of is_closed is_valid noted_of conclude_of is_giving is_asking settle_of each_from ledger_least judge_of ends_in_sum total
by_itself = round (group_passed false) hand (replied refl)

-- node 1 took its place as leader, but the reply was lost: the host doesn't know whose the reply to the group is
leader_in_doubt_lem : Comes (world_at (session Idle (doubt_of (SetAddress (in_group 1 true)) (addressed 1)) (addressed 2)) (grouped 1 true ∷ placed 2 0 ∷ []) quiet
    (record { what = sends (node_at 1) (SetAddress (in_group 1 true)); at = divisor_up; answer = Silent } ∷ walked))
unfolding report_of finish_of is_closed is_valid noted_of conclude_of is_giving is_asking settle_of each_from ledger_least judge_of ends_in_sum total
leader_in_doubt_lem = round walks leads (unheard refl)

command : Round (Order group80 (SetOutputs 5)) (sends group80 (SetOutputs 5)) sets (λ i. true)
    (session Idle (doubt_of (SetAddress (in_group 1 true)) (addressed 1)) (addressed 2))
    (session (Waiting divisor_up group80 (SetOutputs 5)) (doubt_of (SetAddress (in_group 1 true)) (addressed 1)) (addressed 2))
    (grouped 1 true ∷ placed 2 0 ∷ []) (act_as Gate (SetOutputs 5) (grouped 1 true) ∷ placed 2 0 ∷ [])
unfolding order_of order_check is_lacked any_from ledger_least is_listed is_unlisted is_off_list test_of is_closed is_valid is_waiting transmit_of open_exchange codec_build build_for written total
    frame_of frame_alone data_part is_intact ends_in_sum codec_read shared_rows gate_rows drive_rows motion_of after turned does_act does_reply reply_of reply_items counts
command = record { typed = omega arith; sends = λ past. refl; nodes = refl; says = refl }

pub leader_unknown : Comes (world_at (session Idle (doubt_of (SetOutputs 5) (doubt_of (SetAddress (in_group 1 true)) (addressed 1))) (addressed 2))
    (act_as Gate (SetOutputs 5) (grouped 1 true) ∷ placed 2 0 ∷ []) quiet leader_in_doubt)
unfolding report_of finish_of is_closed is_valid noted_of conclude_of is_giving is_asking settle_of each_from ledger_least judge_of ends_in_sum total
leader_unknown = round leader_in_doubt_lem command (replied refl)
