-- The courses of a Set Baud Rate, step by step: both nodes are in group 0xFF, which nobody leads.
use Prim.Native.Nat.{ℕ, ◌+◌}
use mathlib.Core.Bool.{Bool, true, false, cond, ◌||◌}
use mathlib.Core.List.{List, [], ◌∷◌}
use mathlib.Core.Path.{refl}
use lib.Dec.{eqb}
use Rattle.wire.specs.declared.kind.Kind.TheVariants.{Gate}
use Rattle.buffer.specs.Sum.{total, ends_in_sum}
use Rattle.buffer.specs.Buffer.{written}
use Rattle.packet.specs.Packet.{data_part, frame_of, is_intact}
use Rattle.command.specs.Divisors.{is_listed}
use Rattle.command.specs.declared.Command.TheVariants.{SetBaudRate, Nop}
use Rattle.codec.specs.Reading.{shared_rows, gate_rows, drive_rows, motion_of, codec_read}
use Rattle.codec.specs.Build.{build_for, codec_build}
use Rattle.status.specs.Status.{counts, judge_of}
use Rattle.node.specs.declared.state.Node.{Node}
use Rattle.node.specs.Effect.{group_up, divisor_up}
use Rattle.node.specs.Node.{act_as}
use Rattle.reply.specs.Items.{reply_items}
use Rattle.reply.specs.Reply.{reply_of}
use Rattle.survey.specs.One.{does_act, does_reply, turned}
use Rattle.survey.specs.Chain.{Said, silence, reply, after}
use Rattle.survey.specs.Delivery.{frame_alone}
use Rattle.entry.specs.declared.Entry.{Entry}
use Rattle.entry.specs.Entry.{confirm_of, doubt_of}
use Rattle.ledger.specs.Ledger.{ledger_least, each_from, settle_of, any_from, is_led, is_lacked, is_unlisted, is_off_list}
use Rattle.session.specs.declared.Exchange.{Exchange}
use Rattle.session.specs.declared.Exchange.TheVariants.{Idle, Waiting}
use Rattle.session.specs.declared.Session.{Session}
use Rattle.session.specs.Session.{is_valid, is_closed, node_at}
use Rattle.sending.specs.Sending.{is_waiting, test_of, open_exchange, transmit_of}
use Rattle.host.specs.Calls.{order_check, order_of, baud_rate_check, set_baud_rate_of}
use Rattle.reports.specs.Report.{is_giving, is_asking, noted_of, conclude_of, finish_of, report_of}
use Rattle.calls.specs.declared.Call.TheVariants as call
use Rattle.calls.specs.declared.Call.TheVariants.{Order}
use Rattle.examples.specs.Example.{addressed, pair}
use Rattle.line.specs.History.{sends}
use Rattle.line.specs.Line.{quiet}
use Rattle.line.specs.World.{Comes}
use Rattle.line.specs.Courses.{everybody, fast, rate_set, heard_one, heard_both, unheard_behind, found_behind}
use Rattle.line.proofs.Rounds.{rest, world_at, good, Turn, round, replied, unanswered, placed, walks}

abbrev session : Exchange → Entry → Entry → Session
session x e f = pair 2 x e f rest

-- a node that took the divisor, and one that may have; its entry in doubt, and told of one divisor or the other
abbrev quick : ℕ → Node
quick k = act_as Gate (SetBaudRate fast) (placed k 0)

abbrev second : Bool → Node
second got = cond got (quick 2) (placed 2 0)

abbrev unsure : ℕ → Entry
unsure k = doubt_of (SetBaudRate fast) (addressed k)

abbrev sure : ℕ → ℕ → Entry
sure k v = confirm_of (SetBaudRate v) (unsure k)

-- the packets: AA FF 1A 0A 23; AA 01 0E 0F, AA 02 0E 10
abbrev sets : List ℕ
sets = 0xAA ∷ 0xFF ∷ 0x1A ∷ 0x0A ∷ 0x23 ∷ []

abbrev nop : ℕ → List ℕ
nop k = 0xAA ∷ k ∷ 0x0E ∷ (k + 0x0E) ∷ []

-- Set Baud Rate to all: nobody replies, whether node 2 gets it or not
module _ (got : Bool) where
  set_rate : Turn (call.SetBaudRate (record { 0 = group_up }) fast) (sends everybody (SetBaudRate fast)) divisor_up sets (λ i. eqb i 0 || got) silence
      (session Idle (addressed 1) (addressed 2)) (session (Waiting divisor_up everybody (SetBaudRate fast)) (addressed 1) (addressed 2))
      (placed 1 0 ∷ placed 2 0 ∷ []) (quick 1 ∷ second got ∷ [])
  unfolding set_baud_rate_of baud_rate_check is_led any_from ledger_least is_listed is_unlisted is_off_list test_of is_closed is_valid is_waiting transmit_of open_exchange codec_build build_for written total
      frame_of frame_alone data_part is_intact ends_in_sum codec_read shared_rows gate_rows drive_rows motion_of after turned does_act does_reply reply_of reply_items counts
  set_rate = record { typed = tt; sends = λ past. refl; nodes = refl; says = refl }

  pub both_paced : Comes (world_at (session Idle (unsure 1) (unsure 2)) (quick 1 ∷ second got ∷ []) quiet rate_set)
  unfolding finish_of is_closed is_valid noted_of conclude_of settle_of each_from ledger_least
  both_paced = round walks set_rate (unanswered refl)

-- a Nop to node 1 at the new divisor
ask_1 : (got : Bool) → Turn (Order (node_at 1) Nop) (sends (node_at 1) Nop) fast (nop 1) (λ i. true) (reply good)
    (session Idle (unsure 1) (unsure 2)) (session (Waiting fast (node_at 1) Nop) (unsure 1) (unsure 2)) (quick 1 ∷ second got ∷ []) (quick 1 ∷ second got ∷ [])
unfolding order_of order_check is_lacked any_from ledger_least is_listed is_unlisted is_off_list test_of is_closed is_valid is_waiting transmit_of open_exchange codec_build build_for written total
    frame_of frame_alone data_part is_intact ends_in_sum codec_read shared_rows gate_rows drive_rows motion_of after turned does_act does_reply reply_of reply_items counts
ask_1 true = record { typed = tt; sends = λ past. refl; nodes = refl; says = refl }
ask_1 false = record { typed = tt; sends = λ past. refl; nodes = refl; says = refl }

pub one_heard : (got : Bool) → Comes (world_at (session Idle (sure 1 fast) (unsure 2)) (quick 1 ∷ second got ∷ []) quiet heard_one)
unfolding report_of finish_of is_closed is_valid noted_of conclude_of is_giving is_asking settle_of each_from ledger_least judge_of ends_in_sum total
one_heard got = round (both_paced got) (ask_1 got) (replied refl)

-- a Nop to node 2, which has the divisor of the Nop or not, and is said to or not
abbrev Asks : ℕ → Bool → Said → Type 0
Asks v got said = Turn (Order (node_at 2) Nop) (sends (node_at 2) Nop) v (nop 2) (λ i. true) said
    (session Idle (sure 1 fast) (unsure 2)) (session (Waiting v (node_at 2) Nop) (sure 1 fast) (unsure 2)) (quick 1 ∷ second got ∷ []) (quick 1 ∷ second got ∷ [])

ask_quick : Asks fast true (reply good)
unfolding order_of order_check is_lacked any_from ledger_least is_listed is_unlisted is_off_list test_of is_closed is_valid is_waiting transmit_of open_exchange codec_build build_for written total
    frame_of frame_alone data_part is_intact ends_in_sum codec_read shared_rows gate_rows drive_rows motion_of after turned does_act does_reply reply_of reply_items counts
ask_quick = record { typed = tt; sends = λ past. refl; nodes = refl; says = refl }

pub both_heard : Comes (world_at (session Idle (sure 1 fast) (sure 2 fast)) (quick 1 ∷ quick 2 ∷ []) quiet heard_both)
unfolding report_of finish_of is_closed is_valid noted_of conclude_of is_giving is_asking settle_of each_from ledger_least judge_of ends_in_sum total
both_heard = round (one_heard true) ask_quick (replied refl)

-- it missed the Set Baud Rate, and doesn't hear the Nop at the new divisor;
ask_deaf : Asks fast false silence
unfolding order_of order_check is_lacked any_from ledger_least is_listed is_unlisted is_off_list test_of is_closed is_valid is_waiting transmit_of open_exchange codec_build build_for written total
    frame_of frame_alone data_part is_intact ends_in_sum codec_read shared_rows gate_rows drive_rows motion_of after turned does_act does_reply reply_of reply_items counts
ask_deaf = record { typed = tt; sends = λ past. refl; nodes = refl; says = refl }

pub none_heard : Comes (world_at (session Idle (sure 1 fast) (unsure 2)) (quick 1 ∷ placed 2 0 ∷ []) quiet unheard_behind)
unfolding report_of finish_of is_closed is_valid noted_of conclude_of is_giving is_asking settle_of each_from ledger_least judge_of ends_in_sum total
none_heard = round (one_heard false) ask_deaf (unanswered refl)

-- it replies to one at the old
ask_behind : Asks divisor_up false (reply good)
unfolding order_of order_check is_lacked any_from ledger_least is_listed is_unlisted is_off_list test_of is_closed is_valid is_waiting transmit_of open_exchange codec_build build_for written total
    frame_of frame_alone data_part is_intact ends_in_sum codec_read shared_rows gate_rows drive_rows motion_of after turned does_act does_reply reply_of reply_items counts
ask_behind = record { typed = tt; sends = λ past. refl; nodes = refl; says = refl }

pub found_again : Comes (world_at (session Idle (sure 1 fast) (sure 2 divisor_up)) (quick 1 ∷ placed 2 0 ∷ []) quiet found_behind)
unfolding report_of finish_of is_closed is_valid noted_of conclude_of is_giving is_asking settle_of each_from ledger_least judge_of ends_in_sum total
found_again = round none_heard ask_behind (replied refl)
